-- A text decides its labels: it is read back as the JSON that it was written for.
use Rattle.std.proofs.Common.{◌≡◌, [], ◌∷◌, Some, refl, sym, ap, ◌∙◌, arith}
use Rattle.json.specs.Tree.{MembersHaveNumbers, members_depth}
use Rattle.json.specs.Json.{document}
use Rattle.json.proofs.Printed.Trees.{document-print}
use Rattle.serde_json.specs.Written.{outline, members_outline}
use Rattle.serde_json.proofs.Texts.{print-outline}
use Rattle.label_sets.specs.Labels.{LabelList}
use Rattle.label_sets.specs.Written.{label_members, labels_data, labels_text}
use Rattle.agent_core.specs.declared.target.Series.{Series}
use Rattle.agent_documents.specs.Series.{SeriesDecides}

has_numbers : (labels : LabelList) → MembersHaveNumbers (members_outline (label_members labels))
has_numbers [] = tt
has_numbers (l ∷ labels) = (tt, has_numbers labels)

is_shallow : (labels : LabelList) → members_depth (members_outline (label_members labels)) ≡ 0
is_shallow [] = refl
is_shallow (l ∷ labels) = rw (is_shallow labels)

same_labels : (a b : LabelList) → members_outline (label_members a) ≡ members_outline (label_members b) → a ≡ b
same_labels [] [] e = refl
same_labels [] (l ∷ b) e = cc
same_labels (l ∷ a) [] e = cc
same_labels (l ∷ a) (m ∷ b) e =
    let rest = same_labels a b cc in
    let names : l.0 ≡ m.0 = cc in
    let texts : l.1 ≡ m.1 = cc in
    λ i. (names i, texts i) ∷ rest i

read_back : (labels : LabelList) → document (labels_text labels) ≡ Some (outline (labels_data labels))
read_back labels =
    ap document (sym (print-outline (labels_data labels)))
    ∙ document-print (outline (labels_data labels)) (has_numbers labels) (omega (arith, is_shallow labels))

same_outlines : (a b : LabelList) → labels_text a ≡ labels_text b → Some (outline (labels_data a)) ≡ Some (outline (labels_data b))
same_outlines a b e = sym (read_back a) ∙ ap document e ∙ read_back b

pub series_decides : SeriesDecides
series_decides a b e =
    let outlines = same_outlines a b (ap (λ (s : Series). s.labels) e) in
    let members : members_outline (label_members a) ≡ members_outline (label_members b) = cc in
    same_labels a b members
