-- Reading JSON documents (RFC 8259, as `serde_json` reads them): what the data says, or its first fault.
use Rattle.std.specs.Prelude.{◌≡◌, ◌≢◌, ℕ, List, [], ◌∷◌, Result, Ok, Err}
use Rattle.std.specs.Option.{ok_or}
use Rattle.serde_json.specs.Data.{Data, Items, no_items, item}
use Rattle.serde_json.specs.Find.{as_str, as_array}
use Rattle.json_values.specs.Texts.{json_of}
use Rattle.sd_documents.specs.declared.error.SdError.{SdError}
use Rattle.sd_documents.specs.declared.error.SdError.TheVariants.{NotJson, Shape, Memory}
use Rattle.sd_documents.specs.declared.error.Member.{Member}

-- one after the other, up to the first fault
infixl 10 ◌>>=◌
abbrev pub ◌>>=◌ : {A B : Type 0} → Result A SdError → (A → Result B SdError) → Result B SdError
(Ok x) >>= f = f x
(Err e) >>= f = Err e

-- What is returned, seen by the view, is what is said, unless memory ran out.
abbrev pub Gives : {X Y : Type 0} → (X → Y) → Result X SdError → Result Y SdError → Type 0
Gives view (Ok x) said = said ≡ Ok (view x)
Gives view (Err e) said = e ≢ Memory → said ≡ Err e

-- the value of a JSON text
abbrev pub json_said : List ℕ → Result Data SdError
json_said bytes = ok_or (json_of bytes) NotJson

-- what each of the items says
abbrev pub each_said : {A : Type 0} → (Data → Result A SdError) → Items → Result (List A) SdError
each_said what no_items = Ok []
each_said what (item d ds) = what d >>= λ x. each_said what ds >>= λ xs. Ok (x ∷ xs)

-- a text
abbrev pub text_said : ℕ → Member → Data → Result (List ℕ) SdError
text_said index member d = ok_or (as_str d) (Shape index member)

-- a list of texts
abbrev pub texts_said : ℕ → Member → Data → Result (List (List ℕ)) SdError
texts_said index member d = ok_or (as_array d) (Shape index member) >>= each_said (text_said index member)
