-- The object of a set, built member by member in byte order.
use Rattle.std.proofs.Common.{◌≡◌, ℕ, zero, suc, ◌+◌, ◌<◌, ◌≤◌, true, List, [], ◌∷◌, length, get_or, take, Less, Greater, refl, ap, ◌∙◌, arith, take_all, add-one}
use Rattle.std.specs.FinMap.{is_sorted}
use Rattle.std.proofs.lemmas.Bool.{and_parts}
use Rattle.serde_json.specs.Data.{string, Members, member, put}
use Rattle.label_sets.specs.Labels.{LabelList, byte_cmp}
use Rattle.label_sets.specs.Written.{label_members}
use Rattle.label_sets.proofs.Places.{turned, below_between}

pub put-last : (labels : LabelList) (i : ℕ) (d : List ℕ × List ℕ) → is_sorted byte_cmp labels ≡ true → i < length labels → put (get_or labels i d).0 (string (get_or labels i d).1) (label_members (take i labels)) ≡ label_members (take (suc i) labels)
put-last [] i d sorted within = absurd (omega arith)
put-last (l ∷ labels) zero d sorted within = refl
put-last (l ∷ labels) (suc i) d sorted within =
    let above : byte_cmp (get_or labels i d).0 l.0 ≡ Greater = turned l.0 _ Less (below_between (l ∷ labels) 0 (suc i) d sorted (omega arith) within) in
    rw above (ap (member l.0 (string l.1)) (put-last labels i d (and_parts _ _ sorted).1 (omega arith)))

-- one more label
pub label_members_more : (labels : LabelList) (i : ℕ) (l : List ℕ × List ℕ) (old new : Members) → is_sorted byte_cmp labels ≡ true → i < length labels → l ≡ get_or labels i l → old ≡ label_members (take i labels) → new ≡ put l.0 (string l.1) old → new ≡ label_members (take (i + 1) labels)
label_members_more labels i l old new sorted within read before is =
    rw add-one (is ∙ ap (λ (e : List ℕ × List ℕ). put e.0 (string e.1) old) read ∙ ap (put (get_or labels i l).0 (string (get_or labels i l).1)) before ∙ put-last labels i l sorted within)

pub whole_object : (labels : LabelList) (i : ℕ) (ms : Members) → length labels ≤ i → ms ≡ label_members (take i labels) → ms ≡ label_members labels
whole_object labels i ms all is = is ∙ ap label_members (take_all i labels all)
