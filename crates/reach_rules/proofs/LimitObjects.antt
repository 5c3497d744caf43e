-- The object of limits, built member by member in byte order, and what it spells.
use Rattle.std.proofs.Common.{◌≡◌, ℕ, zero, suc, ◌+◌, ◌<◌, ◌≤◌, true, List, [], ◌∷◌, length, get_or, take, Some, option_map, Less, Greater, String, BTreeMap, Global, refl, ap, subst, ◌∙◌, arith, take_all, add-one}
use borrow.Author.Count.{below_more}
use Rattle.std.proofs.lemmas.List.{get_or_default}
use Rattle.std.specs.FinMap.{is_sorted}
use Rattle.std.proofs.lemmas.Bool.{and_parts}
use Rattle.serde_json.specs.Data.{object, Members, member, put}
use Rattle.serde_json.specs.View.{view, members_view}
use Rattle.serde_json.specs.declared.value.Value.{Value, Object}
use Rattle.serde_json.proofs.Views.{view-Object}
use Rattle.json_values.specs.Spelling.{number_in, number_data}
use Rattle.label_sets.proofs.Places.{turned}
use Rattle.reach_rules.specs.Name.{byte_cmp}
use Rattle.reach_rules.specs.OwnLimits.{LimitList, limits_of, entries_in, limits_in, limit_members, limits_data}
use Rattle.reach_rules.proofs.Limits.{below_between, limits_of-sorted}

put-last : (limits : LimitList) (i : ℕ) (d : List ℕ × ℕ) → is_sorted byte_cmp limits ≡ true → i < length limits → put (get_or limits i d).0 (number_data (get_or limits i d).1) (limit_members (take i limits)) ≡ limit_members (take (suc i) limits)
put-last [] i d sorted within = absurd (omega arith)
put-last (l ∷ limits) zero d sorted within = refl
put-last (l ∷ limits) (suc i) d sorted within =
    let above : byte_cmp (get_or limits i d).0 l.0 ≡ Greater = turned l.0 _ Less (below_between (l ∷ limits) 0 (suc i) d sorted (omega arith) within) in
    rw above (ap (member l.0 (number_data l.1)) (put-last limits i d (and_parts _ _ sorted).1 (omega arith)))

-- one more entry
pub limit_members_more : (limits : LimitList) (i : ℕ) (entry : List ℕ × ℕ) (old new : Members) → is_sorted byte_cmp limits ≡ true → i < length limits → entry ≡ get_or limits i entry → old ≡ limit_members (take i limits) → new ≡ put entry.0 (number_data entry.1) old → new ≡ limit_members (take (i + 1) limits)
limit_members_more limits i entry old new sorted within read before is =
    rw add-one (is ∙ ap (λ (e : List ℕ × ℕ). put e.0 (number_data e.1) old) read ∙ ap (put (get_or limits i entry).0 (number_data (get_or limits i entry).1)) before ∙ put-last limits i entry sorted within)

-- ---- what is written is read again

-- the number is read as it is written
abbrev pub IsSpelled : List ℕ × ℕ → Type 0
IsSpelled entry = number_in (number_data entry.1) ≡ Some entry.1

abbrev pub EachSpelled : LimitList → ℕ → Type 0
EachSpelled limits n = (k : ℕ) (d : List ℕ × ℕ) → k < n → IsSpelled (get_or limits k d)

pub spelled_more : (limits : LimitList) (i : ℕ) (entry : List ℕ × ℕ) → i < length limits → entry ≡ get_or limits i entry → IsSpelled entry → EachSpelled limits i → EachSpelled limits (i + 1)
spelled_more limits i entry within read spelled each k d lt =
    below_more (λ n. IsSpelled (get_or limits n d)) i (λ n below. each n d below) (subst IsSpelled (read ∙ get_or_default limits i entry d within) spelled) k lt

entries_back : (limits : LimitList) → EachSpelled limits (length limits) → entries_in (limit_members limits) ≡ Some limits
entries_back [] each = refl
entries_back (l ∷ limits) each =
    let first : number_in (number_data l.1) ≡ Some l.1 = each 0 l (omega arith) in
    rw (first, entries_back limits (λ k d lt. each (suc k) d (omega arith))) refl

limits_back : (limits : LimitList) → is_sorted byte_cmp limits ≡ true → EachSpelled limits (length limits) → limits_in (limits_data limits) ≡ Some limits
limits_back limits sorted each = ap (option_map limits_of) (entries_back limits each) ∙ ap Some (limits_of-sorted limits sorted)

-- ---- the whole object

module _ (limits : LimitList) (i : ℕ) (map : BTreeMap (String Global) Value) (all : length limits ≤ i) (is : members_view map.entries ≡ limit_members (take i limits)) where
  pub object_is : view (Object map) ≡ limits_data limits
  object_is = view-Object map ∙ ap object (is ∙ ap limit_members (take_all i limits all))

  pub object_back : is_sorted byte_cmp limits ≡ true → EachSpelled limits i → limits_in (view (Object map)) ≡ Some limits
  object_back sorted each = ap limits_in object_is ∙ limits_back limits sorted (λ k d lt. each k d (omega arith))
