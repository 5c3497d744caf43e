-- Reading JSON documents (RFC 8259, as `serde_json` reads them): what the data says, or its first fault.
use Rattle.std.specs.Prelude.{◌≡◌, ◌≢◌, ℕ, List, ◌++◌, Result, Ok, Err}
use Rattle.std.specs.Option.{ok_or}
use Rattle.serde_json.specs.Data.{Data}
use Rattle.json_values.specs.Texts.{json_of}
use Rattle.agent_documents.specs.declared.error.DocumentError.{DocumentError}
use Rattle.agent_documents.specs.declared.error.DocumentError.TheVariants.{NotJson, Memory}

-- one after the other, up to the first fault
infixl 10 ◌>>=◌
abbrev pub ◌>>=◌ : {A B : Type 0} → Result A DocumentError → (A → Result B DocumentError) → Result B DocumentError
(Ok x) >>= f = f x
(Err e) >>= f = Err e

-- What is returned, seen by the view, is what is said, unless memory ran out.
abbrev pub Gives : {X Y : Type 0} → (X → Y) → Result X DocumentError → Result Y DocumentError → Type 0
Gives view (Ok x) said = said ≡ Ok (view x)
Gives view (Err e) said = e ≢ Memory → said ≡ Err e

-- the value of a JSON text
abbrev pub json_said : List ℕ → Result Data DocumentError
json_said bytes = ok_or (json_of bytes) NotJson

-- what is said, behind these
abbrev pub with_front : {A : Type 0} → List A → Result (List A) DocumentError → Result (List A) DocumentError
with_front front said = said >>= λ xs. Ok (front ++ xs)
