-- What finished targets are made of, and what they are finished to again.
use Rattle.std.proofs.Common.{◌≡◌, ◌≢◌, ℕ, Bool, true, false, cond, not, List, [], ◌∷◌, ◌++◌, Option, Some, None, Less, Equal, Greater, is_lt, unwrap_or, true≢false, refl, sym, ap, ◌∙◌}
use Rattle.std.specs.Prelude.{codes, filter, if◌then◌else◌}
use Rattle.std.specs.List.{list_all}
use Rattle.std.specs.Str.{bytes_eq}
use Rattle.std.specs.FinMap.{find, put, is_sorted}
use Rattle.std.specs.FinMap.Entries.{below_all, by_order, find-where_key}
use Rattle.std.proofs.lemmas.Bool.{and_parts, and_from}
use Rattle.label_sets.specs.Labels.{LabelList, byte_cmp, label_text, with_label, is_some_text, IsLabelSet}
use Rattle.label_sets.specs.Finish.{finished}
use Rattle.label_sets.specs.Target.{FinalTarget, IsFinal, is_group_name, with_instance, group_labels}
use Rattle.label_sets.specs.Laws.{LastIsPutLast, FinishesAgain}
use Rattle.label_sets.specs.declared.target.Finished.{Finished}
use Rattle.label_sets.specs.declared.target.Finished.TheVariants.{Target, NoAddress}
use Rattle.label_sets.proofs.Kept.{IsLabelSet-where_name, IsLabelSet-with_label}
use Rattle.label_sets.proofs.LawProofs.{same_name, set_gives_text}
use Rattle.label_sets.proofs.Places.{turned, is_less}

-- ---- texts that are not empty

some_text : (text : List ℕ) → bytes_eq text [] ≡ false → is_some_text text ≡ true
some_text [] e = cc
some_text (b ∷ bs) e = refl

not_empty : (text : List ℕ) → is_some_text text ≡ true → bytes_eq text [] ≡ false
not_empty [] e = cc
not_empty (b ∷ bs) e = refl

with_some : (labels : LabelList) (name text : List ℕ) → is_some_text text ≡ true → with_label labels name text ≡ put byte_cmp name text labels
with_some labels name [] some = cc
with_some labels name (b ∷ bs) some = refl

-- ---- what a set is finished to

abbrev of_group : List ℕ × List ℕ → Bool
of_group l = is_group_name l.0

all-filter : (labels : LabelList) → list_all of_group (filter of_group labels) ≡ true
all-filter [] = refl
all-filter (l ∷ labels) = elim (of_group l) as (λ b. of_group l ≡ b → list_all of_group (cond b (l ∷ filter of_group labels) (filter of_group labels)) ≡ true) [
  | true ↦ λ e. and_from _ _ e (all-filter labels)
  | false ↦ λ e. all-filter labels
] refl

-- labels of a group keep their texts
text-filter : (labels : LabelList) (name : List ℕ) → is_group_name name ≡ true → label_text (filter of_group labels) name ≡ label_text labels name
text-filter labels name here =
    ap (λ (o : Option (List ℕ)). unwrap_or o []) (find-where_key byte_cmp is_group_name name (λ x tied. ap is_group_name (sym (same_name name x tied))) labels ∙ ap (λ b. cond b (find byte_cmp name labels) None) here)

set_by : (labels : LabelList) (b : Bool) (address : List ℕ) → IsLabelSet labels → IsLabelSet (if b then with_label labels (codes "instance") address else labels)
set_by labels true address set = IsLabelSet-with_label labels (codes "instance") address set refl
set_by labels false address set = set

instance_by : (labels : LabelList) (b : Bool) (address : List ℕ) → bytes_eq (label_text labels (codes "instance")) [] ≡ b → is_some_text address ≡ true → is_some_text (label_text (if b then with_label labels (codes "instance") address else labels) (codes "instance")) ≡ true
instance_by labels true address e some = ap is_some_text (set_gives_text labels (codes "instance") address).this ∙ some
instance_by labels false address e some = some_text _ e

pub is_final : (labels : LabelList) → IsLabelSet labels → bytes_eq (label_text labels (codes "__address__")) [] ≡ false → IsFinal (record { address = label_text labels (codes "__address__"); labels = group_labels labels })
is_final labels set filled =
    let address = label_text labels (codes "__address__") in
    let some = some_text address filled in
    record {
      address = some;
      labels = IsLabelSet-where_name (with_instance labels) is_group_name (set_by labels (bytes_eq (label_text labels (codes "instance")) []) address set);
      of_group = all-filter (with_instance labels);
      instance = ap is_some_text (text-filter (with_instance labels) (codes "instance") refl) ∙ instance_by labels (bytes_eq (label_text labels (codes "instance")) []) address refl some;
    }

-- ---- and that it is finished to itself

-- a name that is none of a group's, put in and taken out again
filter-put : (labels : LabelList) (name text : List ℕ) → is_group_name name ≡ false → list_all of_group labels ≡ true → filter of_group (put byte_cmp name text labels) ≡ labels
filter-put [] name text out all = rw out refl
filter-put (l ∷ labels) name text out all =
    let parts = and_parts _ _ all in
    let first : is_group_name l.0 ≡ true = parts.0 in
    let whole : filter of_group (l ∷ labels) ≡ l ∷ labels = rw first (ap (λ (ls : LabelList). l ∷ ls) (kept labels parts.1)) in
    elim (byte_cmp name l.0) as (λ o. byte_cmp name l.0 ≡ o → filter of_group (by_order o ((name, text) ∷ l ∷ labels) ((l.0, text) ∷ labels) (l ∷ put byte_cmp name text labels)) ≡ l ∷ labels) [
      | Less ↦ λ e. rw out whole
      | Equal ↦ λ e. absurd (true≢false (sym first ∙ sym (ap is_group_name (same_name name l.0 e)) ∙ out))
      | Greater ↦ λ e. rw first (ap (λ (ls : LabelList). l ∷ ls) (filter-put labels name text out parts.1))
    ] refl
  where
    kept : (ls : LabelList) → list_all of_group ls ≡ true → filter of_group ls ≡ ls
    kept [] all = refl
    kept (m ∷ ls) all =
        let parts = and_parts _ _ all in
        let first : is_group_name m.0 ≡ true = parts.0 in
        rw first (ap (λ (ms : LabelList). m ∷ ms) (kept ls parts.1))

other_name : codes "instance" ≢ codes "__address__"
other_name e = cc

finished_by : (b : Bool) (target : FinalTarget) → b ≡ false → (if b then NoAddress else Target target) ≡ Target target
finished_by true target e = cc
finished_by false target e = refl

same_target : (a b : List ℕ) (ls ms : LabelList) → a ≡ b → ls ≡ ms → ◌≡◌ {A = FinalTarget} (record { address = a; labels = ls }) (record { address = b; labels = ms })
same_target a b ls ms e f = λ i. record { address = e i; labels = f i }

pub finishes_again : FinishesAgain
finishes_again target final =
    let name = codes "__address__" in
    let labels = with_label target.labels name target.address in
    let gives = set_gives_text target.labels name target.address in
    let here : bytes_eq (label_text labels name) [] ≡ false = ap (λ (t : List ℕ). bytes_eq t []) gives.this ∙ not_empty target.address final.address in
    let instance : bytes_eq (label_text labels (codes "instance")) [] ≡ false = ap (λ (t : List ℕ). bytes_eq t []) (gives.others (codes "instance") other_name) ∙ not_empty _ final.instance in
    let same : with_instance labels ≡ labels = rw instance refl in
    let group : group_labels labels ≡ target.labels = ap (filter of_group) (same ∙ with_some target.labels name target.address final.address) ∙ filter-put target.labels name target.address refl final.of_group in
    finished_by _ _ here ∙ ap Target (same_target _ _ _ _ gives.this group)

-- ---- the last label of a set

below_here : (name : List ℕ) (front rest : LabelList) (l : List ℕ × List ℕ) → below_all byte_cmp name (front ++ l ∷ rest) ≡ true → byte_cmp name l.0 ≡ Less
below_here name [] rest l h = is_less _ (and_parts _ _ h).0
below_here name (m ∷ front) rest l h = below_here name front rest l (and_parts _ _ h).1

put_behind : (front rest : LabelList) (name text : List ℕ) → is_sorted byte_cmp (front ++ (name, text) ∷ rest) ≡ true → put byte_cmp name text front ≡ front ++ (name, text) ∷ []
put_behind [] rest name text sorted = refl
put_behind (l ∷ front) rest name text sorted =
    let parts = and_parts _ _ sorted in
    let above : byte_cmp name l.0 ≡ Greater = turned l.0 name Less (below_here l.0 front rest (name, text) parts.0) in
    rw above (ap (λ (ls : LabelList). l ∷ ls) (put_behind front rest name text parts.1))

filled_here : (front rest : LabelList) (l : List ℕ × List ℕ) → list_all (λ (m : List ℕ × List ℕ). is_some_text m.1) (front ++ l ∷ rest) ≡ true → is_some_text l.1 ≡ true
filled_here [] rest l h = (and_parts _ _ h).0
filled_here (m ∷ front) rest l h = filled_here front rest l (and_parts _ _ h).1

pub last_is_put_last : LastIsPutLast
last_is_put_last front rest name text set = with_some front name text (filled_here front rest (name, text) set.filled) ∙ put_behind front rest name text set.ordered
