-- The members of an object come in the order of their names, and so do those of them that are not left out.
use Rattle.std.proofs.Common.{◌≡◌, ℕ, List, [], ◌∷◌, ◌++◌, Bool, true, false, Less, Greater, string_bytes, string_cmp, nat_cmp, if◌then◌else◌, refl, ap, ◌∙◌}
use Rattle.std.proofs.lemmas.Cmp.{nat_list_cmp_total}
use Rattle.std.specs.Cmp.Lexicographic.{slice_cmp}
use Rattle.std.specs.List.{AllByRecursion}
use Rattle.std.specs.List.Sorted.{IsStrictlySortedBy}
use Rattle.std.specs.Map.{keys_of}
use Rattle.std.specs.Ordering.{ordering_reverse}
use Rattle.serde_json.specs.Data.{Data, Members, member, put}
use Rattle.serde_json.specs.View.{view, members_view}
use Rattle.serde_json.proofs.Views.{Entry}
use Rattle.json_values.specs.Members.{members_but, with_member}

below_middle : (first : Entry) (es : List Entry) (e : Entry) (more : List Entry) → AllByRecursion (λ y. string_cmp first.0 y ≡ Less) (keys_of (es ++ e ∷ more)) → string_cmp first.0 e.0 ≡ Less
below_middle first [] e more h = h.0
below_middle first (x ∷ es) e more h = below_middle first es e more h.1

-- a member whose name is above another goes behind it
behind : (b c : Bool) (k l : List ℕ) (d f : Data) (before after : Members) → slice_cmp nat_cmp k l ≡ Greater → (if b then before else put k d before) ≡ after
    → (if b then (if c then before else member l f before) else put k d (if c then before else member l f before)) ≡ (if c then after else member l f after)
behind true true k l d f before after above later = later
behind true false k l d f before after above later = ap (member l f) later
behind false true k l d f before after above later = later
behind false false k l d f before after above later = rw above (ap (member l f) later)

-- a key that is above those before it goes last
pub kept_last : (is_left_out : List ℕ → Bool) (done : List Entry) (e : Entry) (more : List Entry) → IsStrictlySortedBy string_cmp (keys_of (done ++ e ∷ more))
    → with_member is_left_out (string_bytes e.0) (view e.1) (members_but is_left_out (members_view done)) ≡ members_but is_left_out (members_view (done ++ e ∷ []))
unfolding IsStrictlySortedBy
kept_last is_left_out [] e more h = refl
kept_last is_left_out (first ∷ done) e more h =
    let above : slice_cmp nat_cmp (string_bytes e.0) (string_bytes first.0) ≡ Greater =
    nat_list_cmp_total.antisymm (string_bytes e.0) (string_bytes first.0) ∙ ap ordering_reverse (below_middle first done e more h.0) in
    behind (is_left_out (string_bytes e.0)) (is_left_out (string_bytes first.0)) (string_bytes e.0) (string_bytes first.0) (view e.1) (view first.1) _ _ above (kept_last is_left_out done e more h.1)
