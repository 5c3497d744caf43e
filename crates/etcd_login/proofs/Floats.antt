-- What is posted has no float, so it is the one compact text of its value.
use Rattle.std.proofs.Common.{◌≡◌, ℕ, false, List, IfOk, ap, ◌∙◌}
use Rattle.std.specs.Prelude.{Result}
use Rattle.std.proofs.lemmas.Result.{IfOk-weaker}
use Rattle.serde_json.specs.Data.{Data}
use Rattle.serde_json.specs.Written.{compact_text, has_float}

-- the text of a value that is this one, and has no float
pub text_is : {E : Type 0} (written : Result (List ℕ) E) (value all : Data) → value ≡ all → has_float all ≡ false → IfOk written (λ (t : List ℕ). has_float value ≡ false → t ≡ compact_text value) → IfOk written (λ (t : List ℕ). t ≡ compact_text all)
text_is written value all is none form =
    IfOk-weaker written (λ (t : List ℕ). has_float value ≡ false → t ≡ compact_text value) (λ (t : List ℕ). t ≡ compact_text all)
    (λ t f. f (ap has_float is ∙ none) ∙ ap compact_text is) form
