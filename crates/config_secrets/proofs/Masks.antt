-- Masking goes through the values of a list and the members of an object in their order.
use Rattle.std.proofs.Common.{◌≡◌, ℕ, List, [], ◌∷◌, ◌++◌, map, String, Global, Ordering, Less, Greater, string_bytes, string_cmp, nat_cmp, refl, ap, ◌∙◌}
use Rattle.std.proofs.lemmas.Cmp.{nat_list_cmp_total}
use Rattle.std.specs.Cmp.Lexicographic.{slice_cmp}
use Rattle.std.specs.List.{AllByRecursion}
use Rattle.std.specs.List.Sorted.{IsStrictlySortedBy}
use Rattle.std.specs.Map.{keys_of}
use Rattle.std.specs.Ordering.{match_ordering, ordering_reverse}
use Rattle.serde_json.specs.Data.{Data, Items, no_items, item, Members, no_members, member, put}
use Rattle.serde_json.specs.View.{view, items_view, items_of, members_view}
use Rattle.serde_json.specs.declared.value.Value.{Value}
use Rattle.serde_json.proofs.Views.{Entry}
use Rattle.config_secrets.specs.declared.masking.Treatment.{Treatment}
use Rattle.config_secrets.specs.Masked.{masked, masked_items, masked_members, treatment_of}

pub items_in_order : (how : Treatment) (vs : List Value) → items_of (map (λ (v : Value). masked how (view v)) vs) ≡ masked_items how (items_view vs)
items_in_order how [] = refl
items_in_order how (v ∷ vs) = ap (item (masked how (view v))) (items_in_order how vs)

below_middle : (first : Entry) (es : List Entry) (e : Entry) (more : List Entry) → AllByRecursion (λ y. string_cmp first.0 y ≡ Less) (keys_of (es ++ e ∷ more)) → string_cmp first.0 e.0 ≡ Less
below_middle first [] e more h = h.0
below_middle first (x ∷ es) e more h = below_middle first es e more h.1

-- a key that is above those before it goes last
pub masked_last : (how : Treatment) (done : List Entry) (e : Entry) (more : List Entry) → IsStrictlySortedBy string_cmp (keys_of (done ++ e ∷ more))
    → put (string_bytes e.0) (masked (treatment_of how (string_bytes e.0)) (view e.1)) (masked_members how (members_view done)) ≡ masked_members how (members_view (done ++ e ∷ []))
unfolding IsStrictlySortedBy
masked_last how [] e more h = refl
masked_last how (first ∷ done) e more h =
    let above : slice_cmp nat_cmp (string_bytes e.0) (string_bytes first.0) ≡ Greater =
    nat_list_cmp_total.antisymm (string_bytes e.0) (string_bytes first.0) ∙ ap ordering_reverse (below_middle first done e more h.0) in
    rw above (ap (member (string_bytes first.0) (masked (treatment_of how (string_bytes first.0)) (view first.1))) (masked_last how done e more h.1))
