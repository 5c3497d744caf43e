-- The loop that marks the bins of a list.
use Rattle.std.proofs.Common.{◌≡◌, ◌+◌, ◌<◌, ◌≤◌, ◌||◌, ℕ, eqb, Bool, true, false, List, [], inl, inr, length, get_or, take, refl, sym, ap, subst, ◌∙◌, arith}
use Rattle.std.specs.Prelude.{replicate}
use Rattle.std.specs.List.{list_any}
use Rattle.std.proofs.Math.ListN.{set, length-set}
use Rattle.std.proofs.lemmas.List.{get_or-set_same, get_or-set_other, get_or-replicate, length-replicate, take_all}
use Rattle.std.proofs.lemmas.List.Folds.{list_any_more}
use Rattle.std.proofs.lemmas.Bool.{cases_eq, eq-eqb, ne_eqb}
use Rattle.price_certificate.specs.Problem.{IsMarked}

or_true : (b : Bool) → (b || true) ≡ true
or_true true = refl
or_true false = refl

or_false : (b : Bool) → (b || false) ≡ b
or_false true = refl
or_false false = refl

-- before the first bin
pub marking_none : (bins : ℕ) (marks : List Bool) → marks ≡ replicate bins false → IsMarked bins [] marks
marking_none bins marks e = record {
  each = ap (λ (xs : List Bool). length xs) e ∙ length-replicate bins false;
  at = λ bin l. ap (λ (xs : List Bool). get_or xs bin false) e ∙ get_or-replicate bins bin false false l;
}

-- one bin more
pub marking_more : (bins : ℕ) (draining : List ℕ) (i : ℕ) (marks : List Bool) → IsMarked bins (take i draining) marks → i < length draining → get_or draining i 0 < bins → IsMarked bins (take (i + 1) draining) (set marks (get_or draining i 0) true)
marking_more bins draining i marks h l below =
    let last = get_or draining i 0 in
    let more = λ (bin : ℕ). list_any_more (λ b. eqb b bin) draining i 0 l in
    let inside : last < length marks = omega (arith, h.each) in
    record {
      each = length-set marks last true ∙ h.each;
      at = λ bin k. elim (cases_eq last bin) [
        | inl e ↦ subst (λ (b : ℕ). get_or (set marks last true) b false ≡ list_any (λ c. eqb c b) (take (i + 1) draining)) e (get_or-set_same marks last true false inside ∙ sym (more last ∙ ap (λ (b : Bool). list_any (λ c. eqb c last) (take i draining) || b) (eq-eqb last last refl) ∙ or_true (list_any (λ c. eqb c last) (take i draining))))
        | inr d ↦ get_or-set_other marks last bin true false (λ e. d (sym e)) ∙ h.at bin k ∙ sym (more bin ∙ ap (λ (b : Bool). list_any (λ c. eqb c bin) (take i draining) || b) (ne_eqb last bin d) ∙ or_false (list_any (λ c. eqb c bin) (take i draining)))
      ];
    }

-- after the last one
pub marking_all : (bins : ℕ) (draining : List ℕ) (i : ℕ) (marks : List Bool) → IsMarked bins (take i draining) marks → length draining ≤ i → IsMarked bins draining marks
marking_all bins draining i marks h l = subst (λ (ds : List ℕ). IsMarked bins ds marks) (take_all i draining l) h
