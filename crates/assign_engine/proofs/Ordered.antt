-- The pairs of a matching stand in order of their items.
use Rattle.std.proofs.Common.{◌≡◌, ◌+◌, ◌<◌, ◌≤◌, ℕ, zero, suc, List, [], ◌∷◌, Option, Some, None, map, length, get_or, add-one, sym, subst, arith}
use Rattle.std.specs.List.Sorted.{IsStrictlyIncreasing}
use Rattle.assign_engine.specs.Seats.{pairs_from, pairs_of}

abbrev items_from : ℕ → List (Option ℕ) → List ℕ
items_from t ats = map (λ (q : ℕ × ℕ). q.0) (pairs_from t ats)

-- no pair names an item before the first
first_least : (t : ℕ) (ats : List (Option ℕ)) (k : ℕ) → k < length (items_from t ats) → t ≤ get_or (items_from t ats) k 0
first_least t [] k l = absurd (omega arith)
first_least t (None ∷ ats) k l = omega (arith, first_least (t + 1) ats k l)
first_least t (Some b ∷ ats) zero l = omega arith
first_least t (Some b ∷ ats) (suc k) l = omega (arith, first_least (t + 1) ats k (omega arith))

ordered_from : (t : ℕ) (ats : List (Option ℕ)) (k : ℕ) → suc k < length (items_from t ats) → get_or (items_from t ats) k 0 < get_or (items_from t ats) (suc k) 0
ordered_from t [] k l = absurd (omega arith)
ordered_from t (None ∷ ats) k l = ordered_from (t + 1) ats k l
ordered_from t (Some b ∷ ats) zero l = omega (arith, first_least (t + 1) ats 0 (omega arith))
ordered_from t (Some b ∷ ats) (suc k) l = ordered_from (t + 1) ats k (omega arith)

in_order : (ats : List (Option ℕ)) → IsStrictlyIncreasing (items_from 0 ats)
in_order ats = λ k l. rw add-one (ordered_from 0 ats k (omega arith))

pub ordered : (ats : List (Option ℕ)) (pairs : List (ℕ × ℕ)) → pairs ≡ pairs_of ats → IsStrictlyIncreasing (map (λ (q : ℕ × ℕ). q.0) pairs)
ordered ats pairs e = subst (λ (qs : List (ℕ × ℕ)). IsStrictlyIncreasing (map (λ (q : ℕ × ℕ). q.0) qs)) (sym e) (in_order ats)
