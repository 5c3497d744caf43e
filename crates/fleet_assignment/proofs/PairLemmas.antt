-- The allocation of a plan has one pair for each pair of the plan.
use Rattle.std.proofs.Common.{◌≡◌, ℕ, zero, suc, ◌+◌, ◌/◌, ◌<◌, ◌≤◌, List, [], ◌∷◌, ◌++◌, Bool, Option, Some, None, All, length, get_or, cond, eqb, sum_by, refl, sym, ap, ◌∙◌, arith}
use Rattle.std.specs.Prelude.{slice_get}
use Rattle.std.specs.Option.{option_map, option_map_or, option_to_list}
use Rattle.std.proofs.lemmas.List.Elements.{All-head, All-tail}
use Rattle.std.proofs.lemmas.List.Sums.{sum_by-cons}
use Rattle.std.proofs.lemmas.Bool.{eq-eqb, ne_eqb, cond-true, cond-false}
use Rattle.price_certificate.specs.Assignment.{uses_of_item}
use Rattle.fleet_assignment.specs.Beside.{beside}
use Rattle.fleet_assignment.specs.Allocation.{pair_by, pairs_from}
use Rattle.fleet.specs.declared.collector.Collector.{Collector}
use Rattle.fleet_assignment.proofs.CountLemmas.{beside_none}
use Rattle.fleet_assignment.proofs.FitLemmas.{id_at}

-- an item of one of the targets, and a bin of one of the collectors
pub record Lands (jobs : ℕ) (cs : List Collector) (live : List ℕ) (q : ℕ × ℕ) : Type 0 where
  pub in_live : q.0 < length live
  pub one : Collector
  pub found : slice_get cs (q.1 / jobs) ≡ Some one

-- a pair for an item before those that are left is not looked at
past : (jobs : ℕ) (cs : List Collector) (q : ℕ × ℕ) (plan : List (ℕ × ℕ)) (item : ℕ) (live : List ℕ) → q.0 < item → pairs_from jobs cs (beside (q ∷ plan)) item live ≡ pairs_from jobs cs (beside plan) item live
past jobs cs q plan item [] l = refl
past jobs cs q plan item (t ∷ live) l =
    let skip : cond (eqb q.0 item) (Some q.1) (beside plan item) ≡ beside plan item = cond-false (eqb q.0 item) (Some q.1) (beside plan item) (ne_eqb q.0 item (λ e. absurd (omega arith))) in
    let rest = past jobs cs q plan (item + 1) live (omega arith) in
    λ i. option_to_list (pair_by jobs cs (skip i) t) ++ rest i

here_by :
    (v : ℕ × ℕ → ℕ) (jobs : ℕ) (cs : List Collector) (o p : Option ℕ) (t b : ℕ) (c : Collector) (xs ys : List (ℕ × ℕ)) → o ≡ Some b → p ≡ None → slice_get cs (b / jobs) ≡ Some c → xs ≡ ys
    → sum_by v (option_to_list (pair_by jobs cs o t) ++ xs) ≡ v (t, c.id) + sum_by v (option_to_list (pair_by jobs cs p t) ++ ys)
here_by v jobs cs o p t b c xs ys is nothing found same =
    ap (λ (x : Option ℕ). sum_by v (option_to_list (pair_by jobs cs x t) ++ xs)) is
    ∙ ap (λ (x : Option Collector). sum_by v (option_to_list (option_map (λ (y : Collector). (let r : ℕ × ℕ = (t, y.id) in r)) x) ++ xs)) found
    ∙ sum_by-cons v (t, c.id) xs
    ∙ ap (λ (zs : List (ℕ × ℕ)). v (t, c.id) + sum_by v zs) same
    ∙ ap (λ (x : Option ℕ). v (t, c.id) + sum_by v (option_to_list (pair_by jobs cs x t) ++ ys)) (sym nothing)

later_by : (v : ℕ × ℕ → ℕ) (o p : Option (ℕ × ℕ)) (n : ℕ) (xs ys : List (ℕ × ℕ)) → o ≡ p → sum_by v xs ≡ n + sum_by v ys → sum_by v (option_to_list o ++ xs) ≡ n + sum_by v (option_to_list p ++ ys)
later_by v o p n xs ys is more = ap (λ (x : Option (ℕ × ℕ)). sum_by v (option_to_list x ++ xs)) is ∙ later p
  where
    later : (p : Option (ℕ × ℕ)) → sum_by v (option_to_list p ++ xs) ≡ n + sum_by v (option_to_list p ++ ys)
    later None = more
    later (Some q) = omega (arith, more, sum_by-cons v q xs, sum_by-cons v q ys)

-- one pair more in the plan is one pair more in the allocation
one_more :
    (v : ℕ × ℕ → ℕ) (jobs : ℕ) (cs : List Collector) (q : ℕ × ℕ) (plan : List (ℕ × ℕ)) (item k : ℕ) (live : List ℕ) (c : Collector) → q.0 ≡ item + k → k < length live → beside plan q.0 ≡ None → slice_get cs (q.1 / jobs) ≡ Some c
    → sum_by v (pairs_from jobs cs (beside (q ∷ plan)) item live) ≡ v (get_or live k 0, c.id) + sum_by v (pairs_from jobs cs (beside plan) item live)
one_more v jobs cs q plan item k [] c is l nothing found = absurd (omega arith)
one_more v jobs cs q plan item zero (t ∷ live) c is l nothing found =
    let here : q.0 ≡ item = omega arith in
    here_by v jobs cs (beside (q ∷ plan) item) (beside plan item) t q.1 c (pairs_from jobs cs (beside (q ∷ plan)) (item + 1) live) (pairs_from jobs cs (beside plan) (item + 1) live) (cond-true (eqb q.0 item) (Some q.1) (beside plan item) (eq-eqb q.0 item here))
    (ap (beside plan) (sym here) ∙ nothing) found (past jobs cs q plan (item + 1) live (omega arith))
one_more v jobs cs q plan item (suc k) (t ∷ live) c is l nothing found =
    let skip : beside (q ∷ plan) item ≡ beside plan item = cond-false (eqb q.0 item) (Some q.1) (beside plan item) (ne_eqb q.0 item (λ e. absurd (omega arith))) in
    later_by v (pair_by jobs cs (beside (q ∷ plan) item) t) (pair_by jobs cs (beside plan item) t) (v (get_or live k 0, c.id)) (pairs_from jobs cs (beside (q ∷ plan)) (item + 1) live) (pairs_from jobs cs (beside plan) (item + 1) live)
    (ap (λ (o : Option ℕ). pair_by jobs cs o t) skip) (one_more v jobs cs q plan (item + 1) k live c (omega arith) (omega arith) nothing found)

none_from : (v : ℕ × ℕ → ℕ) (jobs : ℕ) (cs : List Collector) (item : ℕ) (live : List ℕ) → sum_by v (pairs_from jobs cs (beside []) item live) ≡ 0
none_from v jobs cs item [] = refl
none_from v jobs cs item (t ∷ live) = none_from v jobs cs (item + 1) live

-- what the pair of an item and a bin stands for
abbrev pub meant : ℕ → List Collector → List ℕ → ℕ × ℕ → ℕ × ℕ
meant jobs cs live q = (get_or live q.0 0, id_at cs (q.1 / jobs))

-- a sum over the allocation of a plan is a sum over the plan
pub sum_meant :
    (v : ℕ × ℕ → ℕ) (jobs : ℕ) (cs : List Collector) (live : List ℕ) (plan : List (ℕ × ℕ)) → All (Lands jobs cs live) plan → ((item : ℕ) → uses_of_item plan item ≤ 1)
    → sum_by v (pairs_from jobs cs (beside plan) 0 live) ≡ sum_by (λ (q : ℕ × ℕ). v (meant jobs cs live q)) plan
sum_meant v jobs cs live [] lands once = none_from v jobs cs 0 live
sum_meant v jobs cs live (q ∷ plan) lands once =
    let first : Lands jobs cs live q = All-head (Lands jobs cs live) q plan lands in
    let counts = λ (item : ℕ). sum_by-cons (λ (r : ℕ × ℕ). cond (eqb r.0 item) 1 0) q plan in
    let alone : uses_of_item plan q.0 ≡ 0 = omega (arith, once q.0, counts q.0, ap (λ (b : Bool). (let r : ℕ = cond b 1 0 in r)) (eq-eqb q.0 q.0 refl)) in
    let rest = sum_meant v jobs cs live plan (All-tail (Lands jobs cs live) q plan lands) (λ item. omega (arith, once item, counts item)) in
    let more = one_more v jobs cs q plan 0 q.0 live first.one (omega arith) first.in_live (beside_none plan q.0 alone) first.found in
    let id : id_at cs (q.1 / jobs) ≡ first.one.id = ap (λ (o : Option Collector). option_map_or (λ (c : Collector). c.id) o 0) first.found in
    omega (arith, more, rest, sum_by-cons (λ (r : ℕ × ℕ). v (meant jobs cs live r)) q plan, ap (λ (n : ℕ). v (get_or live q.0 0, n)) id)
