-- A binary search by number finds the place of a collector, since the numbers ascend.
use Rattle.std.proofs.Common.{◌≡◌, ℕ, ◌+◌, ◌<◌, ◌≤◌, List, Some, Result, Ok, Err, Ordering, Less, Equal, Greater, ◌⊎◌, inl, inr, eqb, get_or, length, refl, sym, ap, ◌∙◌, arith}
use Rattle.std.specs.Prelude.{AllPairs, IfSome}
use Rattle.std.specs.List.Sorted.{IsBinarySearchResult, IsNonDecreasingBy, IsSearchInRange}
use Rattle.std.specs.Ordering.{MatchOrdering, nat_cmp, ordering_index}
use Rattle.std.specs.Result.{result_ok}
use Rattle.std.proofs.lemmas.Bool.{cases_eq, cases_lt, eq-eqb, ne_eqb}
use Rattle.std.proofs.lemmas.Cmp.{ranked}
use Rattle.std.proofs.lemmas.Option.{get_or_from_slice_get, slice_get_cases, slice_get_within}
use Rattle.fleet.specs.declared.collector.Collector.{Collector}
use Rattle.fleet_assignment.specs.Instance.{place_of}
use Rattle.fleet_assignment.proofs.FitLemmas.{position_is, position_none}

abbrev Ascend : List Collector → Type 0
Ascend collectors = AllPairs (λ (a b : Collector). a.id < b.id) collectors

index_rises : (x y id : ℕ) → x ≤ y → ordering_index (nat_cmp x id) ≤ ordering_index (nat_cmp y id)
index_rises x y id l = go (nat_cmp x id) (nat_cmp y id) (ranked x id _ refl) (ranked y id _ refl)
  where
    go : (o p : Ordering) → MatchOrdering o (x < id) (x ≡ id) (id < x) → MatchOrdering p (y < id) (y ≡ id) (id < y) → ordering_index o ≤ ordering_index p
    go Less p h k = omega arith
    go Equal Less h k = absurd (omega (arith, h, k))
    go Equal Equal h k = omega arith
    go Equal Greater h k = omega arith
    go Greater Less h k = absurd (omega (arith, h, k))
    go Greater Equal h k = absurd (omega (arith, h, k))
    go Greater Greater h k = omega arith

-- the comparisons with a number rise, as a binary search asks
rising : (collectors : List Collector) (id : ℕ) → Ascend collectors → IsNonDecreasingBy (λ (c : Collector). ordering_index (nat_cmp c.id id)) collectors
rising collectors id ascend i j d le within = go (cases_eq i j)
  where
    go : (i ≡ j) ⊎ (i ≡ j → ⊥) → ordering_index (nat_cmp (get_or collectors i d).id id) ≤ ordering_index (nat_cmp (get_or collectors j d).id id)
    go (inl e) = rw e (omega arith)
    go (inr ne) = (let l : (get_or collectors i d).id < (get_or collectors j d).id = ascend i j d (omega arith) within in index_rises _ _ id (omega arith))

-- what a binary search answers
pub searched : (collectors : List Collector) (id : ℕ) (r : Result ℕ ℕ) → Ascend collectors → IsSearchInRange r (length collectors) → IsBinarySearchResult (λ (c : Collector). nat_cmp c.id id) collectors r → result_ok r ≡ place_of collectors id
searched collectors id (Ok i) ascend within tied = elim (slice_get_cases collectors i).1 [
  | inl f ↦
      let x = f.0 in
      let read : (get_or collectors i x).id ≡ x.id = ap (λ (c : Collector). c.id) f.3 in
      let tie : (get_or collectors i x).id ≡ id = ranked _ id Equal (sym (tied x)) in
      sym
      (position_is (λ (c : Collector). eqb c.id id) 0 i collectors x f.2 (eq-eqb x.id id (sym read ∙ tie))
      (λ k y l e.
      let less : (get_or collectors k x).id < (get_or collectors i x).id = ascend k i x l f.1 in
      let here : (get_or collectors k x).id ≡ y.id = ap (λ (c : Collector). c.id) (get_or_from_slice_get collectors k y x e) in
      ne_eqb y.id id (λ s. absurd (omega (arith, less, here, tie, s))))
      ∙ ap (λ (n : ℕ). Some n) (let r : 0 + i ≡ i = omega arith in r))
  | inr past ↦ absurd (omega (arith, within, past.0))
]
searched collectors id (Err i) ascend within parted =
    let parts = parted (rising collectors id ascend) in
    sym
    (position_none (λ (c : Collector). eqb c.id id) 0 collectors
    (λ k y e.
    let here : (get_or collectors k y).id ≡ y.id = ap (λ (c : Collector). c.id) (get_or_from_slice_get collectors k y y e) in
    ne_eqb y.id id
    (λ s. elim (cases_lt k i) [
      | inl l ↦ (let less : (get_or collectors k y).id < id = ranked _ id Less (sym (parts.0 k y (omega arith) l)) in absurd (omega (arith, less, here, s)))
      | inr g ↦ (let more : id < (get_or collectors k y).id = ranked _ id Greater (sym (parts.1 k y (omega arith) (slice_get_within collectors k y e))) in absurd (omega (arith, more, here, s)))
    ])))

pub in_range : (r : Result ℕ ℕ) (n : ℕ) → IsSearchInRange r n → IfSome (result_ok r) (λ p. p < n)
in_range (Ok i) n within = within
in_range (Err i) n within = tt
