-- A target's text decides the target: the text is read back as the JSON that it was written for.
use Rattle.std.specs.Prelude.{IsTrue, Bool, ◌↔◌}
use Rattle.std.proofs.Common.{◌≡◌, ℕ, List, [], ◌∷◌, Some, refl, sym, ap, ◌∙◌, arith}
use Rattle.json.specs.Tree.{HasNumbers, MembersHaveNumbers, members_depth}
use Rattle.json.specs.Json.{document}
use Rattle.json.specs.Lex.{tokens}
use Rattle.json.proofs.Printed.Tokens.{tokens-print}
use Rattle.json.proofs.Printed.Trees.{ArePrintable-json_tokens, document-print}
use Rattle.json_values.specs.Texts.{tokens_of}
use Rattle.serde_json.specs.Written.{outline, members_outline}
use Rattle.serde_json.proofs.Texts.{print-outline}
use Rattle.label_sets.specs.Labels.{LabelList}
use Rattle.label_sets.specs.Written.{label_members}
use Rattle.label_sets.specs.Target.{FinalTarget, target_label, target_data, target_text}
use Rattle.label_sets.specs.Laws.{TextDecides, TextDecidesAnswers}

has_numbers : (labels : LabelList) → MembersHaveNumbers (members_outline (label_members labels))
has_numbers [] = tt
has_numbers (l ∷ labels) = (tt, has_numbers labels)

is_shallow : (labels : LabelList) → members_depth (members_outline (label_members labels)) ≡ 0
is_shallow [] = refl
is_shallow (l ∷ labels) = rw (is_shallow labels)

same_labels : (a b : LabelList) → members_outline (label_members a) ≡ members_outline (label_members b) → a ≡ b
same_labels [] [] e = refl
same_labels [] (l ∷ b) e = cc
same_labels (l ∷ a) [] e = cc
same_labels (l ∷ a) (m ∷ b) e =
    let rest = same_labels a b cc in
    let names : l.0 ≡ m.0 = cc in
    let texts : l.1 ≡ m.1 = cc in
    λ i. (names i, texts i) ∷ rest i

numbered : (target : FinalTarget) → HasNumbers (outline (target_data target))
numbered target = (has_numbers target.labels, (((tt, tt), tt)))

-- the text of a target has the tokens that its group is written with
pub target_tokens : (target : FinalTarget) → tokens (target_text target) ≡ tokens_of (target_data target)
target_tokens target = ap tokens (sym (print-outline (target_data target))) ∙ tokens-print (tokens_of (target_data target)) (ArePrintable-json_tokens (outline (target_data target)) (numbered target))

-- the text of a target is read as its own outline
read_back : (target : FinalTarget) → document (target_text target) ≡ Some (outline (target_data target))
read_back target =
    ap document (sym (print-outline (target_data target)))
    ∙ document-print (outline (target_data target)) (numbered target) (omega (arith, is_shallow target.labels))

same_outlines : (a b : FinalTarget) → target_text a ≡ target_text b → Some (outline (target_data a)) ≡ Some (outline (target_data b))
same_outlines a b e = sym (read_back a) ∙ ap document e ∙ read_back b

pub text_decides : TextDecides
text_decides a b e =
    let outlines = same_outlines a b e in
    let addresses : a.address ≡ b.address = cc in
    let members : members_outline (label_members a.labels) ≡ members_outline (label_members b.labels) = cc in
    let labels = same_labels a.labels b.labels members in
    λ i. record { address = addresses i; labels = labels i }

pub text_decides_answers : TextDecidesAnswers
text_decides_answers a b e name = ap (λ (t : FinalTarget). target_label t name) (text_decides a b e)

-- equal texts are those of equal targets
pub same_texts : (a b : FinalTarget) (s t : List ℕ) (r : Bool) → s ≡ target_text a → t ≡ target_text b → IsTrue r ↔ (s ≡ t) → IsTrue r ↔ (a ≡ b)
same_texts a b s t r of_a of_b same = (λ yes. text_decides a b (sym of_a ∙ same.0 yes ∙ of_b), λ e. same.1 (of_a ∙ ap target_text e ∙ sym of_b))
