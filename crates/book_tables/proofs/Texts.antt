-- Texts that are added to a text one behind the other.
use Rattle.std.proofs.Common.{◌≡◌, ◌∙◌, ◌++◌, ℕ, List, ap, subst}
use Rattle.std.specs.Prelude.{Result, OnOk}
use Rattle.std.proofs.lemmas.List.{append_assoc}

-- three of them
pub three : {A B : Type 0} (r : Result A B) (t0 t1 t2 t3 a b c : List ℕ) → t1 ≡ t0 ++ a → t2 ≡ t1 ++ b → OnOk r (t3 ≡ t2 ++ c) → OnOk r (t3 ≡ t0 ++ (a ++ (b ++ c)))
three r t0 t1 t2 t3 a b c first second third =
    let two : t2 ≡ t0 ++ (a ++ b) = second ∙ ap (λ (t : List ℕ). t ++ b) first ∙ append_assoc t0 a b in
    subst (λ (t : List ℕ). OnOk r (t3 ≡ t)) (ap (λ (t : List ℕ). t ++ c) two ∙ append_assoc t0 (a ++ b) c ∙ ap (λ (t : List ℕ). t0 ++ t) (append_assoc a b c)) third
