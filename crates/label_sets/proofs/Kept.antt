-- A set stays one, whatever is put in and taken out.
use Rattle.std.proofs.Common.{◌≡◌, ℕ, Bool, true, false, cond, not, T, List, [], ◌∷◌, Less, Equal, Greater, refl, sym, subst}
use Rattle.std.specs.Ordering.{eq_by_cmp}
use Rattle.std.specs.List.{list_all, filter}
use Rattle.std.specs.FinMap.{put}
use Rattle.std.specs.FinMap.Entries.{by_order, is_sorted-put, is_sorted-where_key}
use Rattle.std.proofs.lemmas.Bool.{and_parts, and_from}
use Rattle.std.proofs.lemmas.Cmp.{nat_list_cmp_total}
use Rattle.label_sets.specs.Name.{is_label_name}
use Rattle.label_sets.specs.Labels.{LabelList, byte_cmp, without, with_label, is_some_text, IsLabelSet}

pub as_T : (b : Bool) → b ≡ true → T b
as_T b e = subst T (sym e) tt

pub from_T : (b : Bool) → T b → b ≡ true
from_T true h = refl
from_T false h = absurd h

named-put : (name text : List ℕ) (labels : LabelList) → is_label_name name ≡ true → list_all (λ (l : List ℕ × List ℕ). is_label_name l.0) labels ≡ true → list_all (λ (l : List ℕ × List ℕ). is_label_name l.0) (put byte_cmp name text labels) ≡ true
named-put name text [] named all = and_from _ _ named refl
named-put name text (l ∷ labels) named all =
    let parts = and_parts _ _ all in
    elim (byte_cmp name l.0) as (λ o. list_all (λ (l : List ℕ × List ℕ). is_label_name l.0) (by_order o ((name, text) ∷ l ∷ labels) ((l.0, text) ∷ labels) (l ∷ put byte_cmp name text labels)) ≡ true) [
      | Less ↦ and_from _ _ named all
      | Equal ↦ all
      | Greater ↦ and_from _ _ parts.0 (named-put name text labels named parts.1)
    ]

filled-put : (name text : List ℕ) (labels : LabelList) → is_some_text text ≡ true → list_all (λ (l : List ℕ × List ℕ). is_some_text l.1) labels ≡ true → list_all (λ (l : List ℕ × List ℕ). is_some_text l.1) (put byte_cmp name text labels) ≡ true
filled-put name text [] filled all = and_from _ _ filled refl
filled-put name text (l ∷ labels) filled all =
    let parts = and_parts _ _ all in
    elim (byte_cmp name l.0) as (λ o. list_all (λ (l : List ℕ × List ℕ). is_some_text l.1) (by_order o ((name, text) ∷ l ∷ labels) ((l.0, text) ∷ labels) (l ∷ put byte_cmp name text labels)) ≡ true) [
      | Less ↦ and_from _ _ filled all
      | Equal ↦ and_from _ _ filled parts.1
      | Greater ↦ and_from _ _ parts.0 (filled-put name text labels filled parts.1)
    ]

pub list_all-filter : (p q : List ℕ × List ℕ → Bool) (labels : LabelList) → list_all p labels ≡ true → list_all p (filter q labels) ≡ true
list_all-filter p q [] all = refl
list_all-filter p q (l ∷ labels) all =
    let parts = and_parts _ _ all in
    let rest = list_all-filter p q labels parts.1 in
    elim (q l) as (λ b. list_all p (cond b (l ∷ filter q labels) (filter q labels)) ≡ true) [ true ↦ and_from _ _ parts.0 rest | false ↦ rest ]

pub IsLabelSet-put : (labels : LabelList) (name text : List ℕ) → IsLabelSet labels → is_label_name name ≡ true → is_some_text text ≡ true → IsLabelSet (put byte_cmp name text labels)
IsLabelSet-put labels name text set named filled = record {
  ordered = from_T _ (is_sorted-put byte_cmp nat_list_cmp_total name text labels (as_T _ set.ordered));
  named = named-put name text labels named set.named;
  filled = filled-put name text labels filled set.filled;
}

pub IsLabelSet-where_name : (labels : LabelList) (p : List ℕ → Bool) → IsLabelSet labels → IsLabelSet (filter (λ (l : List ℕ × List ℕ). p l.0) labels)
IsLabelSet-where_name labels p set = record {
  ordered = from_T _ (is_sorted-where_key byte_cmp p labels (as_T _ set.ordered));
  named = list_all-filter _ _ labels set.named;
  filled = list_all-filter _ _ labels set.filled;
}

pub IsLabelSet-without : (labels : LabelList) (name : List ℕ) → IsLabelSet labels → IsLabelSet (without labels name)
IsLabelSet-without labels name set = IsLabelSet-where_name labels (λ n. not (eq_by_cmp byte_cmp name n)) set

pub IsLabelSet-with_label : (labels : LabelList) (name text : List ℕ) → IsLabelSet labels → is_label_name name ≡ true → IsLabelSet (with_label labels name text)
IsLabelSet-with_label labels name [] set named = IsLabelSet-without labels name set
IsLabelSet-with_label labels name (b ∷ bs) set named = IsLabelSet-put labels name (b ∷ bs) set named refl
