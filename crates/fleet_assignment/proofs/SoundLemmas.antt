-- An allocation of a feasible plan has only live targets, each once, and only at collectors that reach them.
use Rattle.std.proofs.Common.{◌≡◌, ℕ, zero, suc, ◌+◌, ◌*◌, ◌/◌, ◌<◌, ◌≤◌, List, [], ◌∷◌, ◌++◌, Bool, true, false, Option, Some, None, All, length, get_or, cond, eqb, count_by, refl, sym, ap, subst, ◌∙◌, inl, inr, arith}
use Rattle.std.specs.Prelude.{AllPairs, Contains, slice_get}
use Rattle.std.specs.Option.{option_map, option_map_or, option_to_list}
use Rattle.std.proofs.lemmas.Nat.{div-mul-add}
use Rattle.std.proofs.lemmas.List.{get_or-map}
use Rattle.std.proofs.lemmas.List.Elements.{All-nil, All-head, All-tail}
use Rattle.std.proofs.lemmas.List.Kept.{AllPairs-cons}
use Rattle.std.proofs.lemmas.List.Sums.{sum_by-cons}
use Rattle.std.proofs.lemmas.Bool.{cases_eq, ne_eqb}
use Rattle.price_certificate.specs.Problem.{IsAllowed, row_of}
use Rattle.reach_rules.specs.Rules.{reaches}
use Rattle.fleet.specs.Fleet.{live_of, is_live}
use Rattle.fleet_assignment.proofs.Moment.{Moment}
use Rattle.fleet_assignment.specs.Beside.{beside}
use Rattle.fleet_assignment.specs.Instance.{instance_of, row_from, row_for}
use Rattle.fleet_assignment.specs.Allocation.{allocation_of, pair_by, pairs_from}
use Rattle.fleet.specs.IsFleet.{IsFleet}
use Rattle.fleet_assignment.specs.Best.{IsReached}
use Rattle.fleet.specs.declared.known_target.KnownTarget.{KnownTarget}
use Rattle.fleet.specs.declared.collector.Collector.{Collector}
use Rattle.fleet.proofs.Chosen.{chosen_ascend, chosen_once, chosen_pass}
use Rattle.fleet_assignment.proofs.Shapes.{found_has}

-- a pair is of its target
first_is : (o : Option Collector) (target : ℕ) (q : ℕ × ℕ) → option_map (λ (c : Collector). (let r : ℕ × ℕ = (target, c.id) in r)) o ≡ Some q → q.0 ≡ target
first_is None target q e = cc
first_is (Some c) target q e = cc

pair_first : (jobs : ℕ) (cs : List Collector) (bin : Option ℕ) (target : ℕ) (q : ℕ × ℕ) → pair_by jobs cs bin target ≡ Some q → q.0 ≡ target
pair_first jobs cs None target q e = cc
pair_first jobs cs (Some b) target q e = first_is (slice_get cs (b / jobs)) target q e

-- what holds of each target holds of each pair's
live_pair_by : (P : ℕ → Type 0) (o : Option (ℕ × ℕ)) (target : ℕ) (rest : List (ℕ × ℕ)) → ((q : ℕ × ℕ) → o ≡ Some q → q.0 ≡ target) → P target → All (λ (q : ℕ × ℕ). P q.0) rest → All (λ (q : ℕ × ℕ). P q.0) (option_to_list o ++ rest)
live_pair_by P None target rest is holds all k d l = all k d l
live_pair_by P (Some q) target rest is holds all zero d l = subst P (sym (is q refl)) holds
live_pair_by P (Some q) target rest is holds all (suc k) d l = all k d (omega arith)

live_pairs : (P : ℕ → Type 0) (jobs : ℕ) (cs : List Collector) (f : ℕ → Option ℕ) (item : ℕ) (live : List ℕ) → All P live → All (λ (q : ℕ × ℕ). P q.0) (pairs_from jobs cs f item live)
live_pairs P jobs cs f item [] all = All-nil (λ (q : ℕ × ℕ). P q.0)
live_pairs P jobs cs f item (t ∷ live) all =
    live_pair_by P (pair_by jobs cs (f item) t) t (pairs_from jobs cs f (item + 1) live) (pair_first jobs cs (f item) t) (All-head P t live all) (live_pairs P jobs cs f (item + 1) live (All-tail P t live all))

once_pair_by :
    (o : Option (ℕ × ℕ)) (target t : ℕ) (rest : List (ℕ × ℕ)) (live : List ℕ) → ((q : ℕ × ℕ) → o ≡ Some q → q.0 ≡ target) → count_by (λ (q : ℕ × ℕ). eqb q.0 t) rest ≤ count_by (λ (x : ℕ). eqb x t) live
    → count_by (λ (q : ℕ × ℕ). eqb q.0 t) (option_to_list o ++ rest) ≤ count_by (λ (x : ℕ). eqb x t) (target ∷ live)
once_pair_by None target t rest live is few = omega (arith, sum_by-cons (λ (x : ℕ). cond (eqb x t) 1 0) target live, few)
once_pair_by (Some q) target t rest live is few =
    omega (arith, sum_by-cons (λ (x : ℕ). cond (eqb x t) 1 0) target live, sum_by-cons (λ (r : ℕ × ℕ). cond (eqb r.0 t) 1 0) q rest, few, ap (λ (x : ℕ). (let r : ℕ = cond (eqb x t) 1 0 in r)) (is q refl))

once_pairs : (jobs : ℕ) (cs : List Collector) (f : ℕ → Option ℕ) (item t : ℕ) (live : List ℕ) → count_by (λ (q : ℕ × ℕ). eqb q.0 t) (pairs_from jobs cs f item live) ≤ count_by (λ (x : ℕ). eqb x t) live
once_pairs jobs cs f item t [] = omega arith
once_pairs jobs cs f item t (x ∷ live) =
    once_pair_by (pair_by jobs cs (f item) x) x t (pairs_from jobs cs f (item + 1) live) live (pair_first jobs cs (f item) x) (once_pairs jobs cs f (item + 1) t live)

-- the pairs ascend by target, as the targets do
ascend_by :
    (o : Option (ℕ × ℕ)) (target : ℕ) (rest : List (ℕ × ℕ)) → ((q : ℕ × ℕ) → o ≡ Some q → q.0 ≡ target) → All (λ (q : ℕ × ℕ). target < q.0) rest → AllPairs (λ (a b : ℕ × ℕ). a.0 < b.0) rest
    → AllPairs (λ (a b : ℕ × ℕ). a.0 < b.0) (option_to_list o ++ rest)
ascend_by None target rest is above asc = asc
ascend_by (Some q) target rest is above asc = AllPairs-cons (λ (a b : ℕ × ℕ). a.0 < b.0) q rest (λ k d l. omega (arith, is q refl, above k d l)) asc

pairs_ascend : (jobs : ℕ) (cs : List Collector) (f : ℕ → Option ℕ) (item : ℕ) (live : List ℕ) → AllPairs (λ (a b : ℕ). a < b) live → AllPairs (λ (a b : ℕ × ℕ). a.0 < b.0) (pairs_from jobs cs f item live)
pairs_ascend jobs cs f item [] asc = λ i j d l less. absurd (omega arith)
pairs_ascend jobs cs f item (t ∷ live) asc =
    ascend_by (pair_by jobs cs (f item) t) t (pairs_from jobs cs f (item + 1) live) (pair_first jobs cs (f item) t) (live_pairs (λ (x : ℕ). t < x) jobs cs f (item + 1) live (λ k d l. asc 0 (suc k) d (omega arith) (omega arith)))
    (pairs_ascend jobs cs f (item + 1) live (λ i j d l less. asc (suc i) (suc j) d (omega arith) (omega arith)))

-- where a bin of a row is from
pub record IsFrom (jobs place bin : ℕ) (cs : List Collector) (k : KnownTarget) : Type 0 where
  pub further : ℕ
  pub reacher : Collector
  pub found : slice_get cs further ≡ Some reacher
  pub is : bin ≡ (place + further) * jobs + k.job
  pub reached : reaches reacher.reach k.target ≡ true

from_by :
    (b : Bool) (jobs place bin x : ℕ) (c : Collector) (cs : List Collector) (k : KnownTarget) (rest : List ℕ) → reaches c.reach k.target ≡ b → x ≡ place * jobs + k.job → (Contains rest bin → IsFrom jobs (place + 1) bin cs k) → Contains (cond b (x ∷ rest) rest) bin
    → IsFrom jobs place bin (c ∷ cs) k
from_by false jobs place bin x c cs k rest e is later (i, l, at) =
    let f = later (i, l, at) in
    record { further = suc f.further; reacher = f.reacher; found = f.found; is = f.is ∙ ap (λ (n : ℕ). n * jobs + k.job) (let r : place + 1 + f.further ≡ place + suc f.further = omega arith in r); reached = f.reached }
from_by true jobs place bin x c cs k rest e is later (zero, l, at) =
    record { further = 0; reacher = c; found = refl; is = sym at ∙ is ∙ ap (λ (n : ℕ). n * jobs + k.job) (let r : place ≡ place + 0 = omega arith in r); reached = e }
from_by true jobs place bin x c cs k rest e is later (suc i, l, at) =
    let f = later (i, omega arith, at) in
    record { further = suc f.further; reacher = f.reacher; found = f.found; is = f.is ∙ ap (λ (n : ℕ). n * jobs + k.job) (let r : place + 1 + f.further ≡ place + suc f.further = omega arith in r); reached = f.reached }

pub row_is_from : (jobs place bin : ℕ) (cs : List Collector) (k : KnownTarget) → Contains (row_from jobs place cs k) bin → IsFrom jobs place bin cs k
row_is_from jobs place bin [] k (i, l, at) = absurd (omega arith)
row_is_from jobs place bin (c ∷ cs) k has =
    from_by (reaches c.reach k.target) jobs place bin (place * jobs + k.job) c cs k (row_from jobs (place + 1) cs k) refl refl (row_is_from jobs (place + 1) bin cs k) has

pub same_some : (a b : Collector) (o : Option Collector) → o ≡ Some a → o ≡ Some b → a ≡ b
same_some a b o e f = cc

reached_by :
    (m : Moment) (target bin : ℕ) (c : Collector) (o : Option KnownTarget) → slice_get m.fleet.known target ≡ o → ((k : KnownTarget) → o ≡ Some k → k.job < length m.fleet.jobs) → Contains (option_map_or (λ (k : KnownTarget). row_from (length m.fleet.jobs) 0 m.fleet.collectors k) o []) bin
    → slice_get m.fleet.collectors (bin / length m.fleet.jobs) ≡ Some c → IsReached m.fleet target c.id
reached_by m target bin c None e home (i, l, at) found = absurd (omega arith)
reached_by m target bin c (Some k) e home has found =
    let f = row_is_from (length m.fleet.jobs) 0 bin m.fleet.collectors k has in
    let place : bin / length m.fleet.jobs ≡ f.further = ap (λ (b : ℕ). b / length m.fleet.jobs) (f.is ∙ ap (λ (n : ℕ). n * length m.fleet.jobs + k.job) (let r : 0 + f.further ≡ f.further = omega arith in r)) ∙ div-mul-add f.further (length m.fleet.jobs) k.job (home k refl) in
    let same : f.reacher ≡ c = same_some f.reacher c (slice_get m.fleet.collectors f.further) f.found (ap (λ (n : ℕ). slice_get m.fleet.collectors n) (sym place) ∙ found) in
    record {
      place = f.further;
      reacher = f.reacher;
      known_as = k;
      is_live_one = f.found;
      number = ap (λ (x : Collector). x.id) same;
      is_known = e;
      reached = f.reached;
    }

-- a bin that is beside an item is one of a pair
beside_by : (c : Bool) (x b : ℕ) (o : Option ℕ) (P : ℕ → Type 0) → (c ≡ true → P x) → (o ≡ Some b → P b) → cond c (Some x) o ≡ Some b → P b
beside_by true x b o P here later e = let s : x ≡ b = cc in subst P s (here refl)
beside_by false x b o P here later e = later e

eqb_same : (a b : ℕ) → eqb a b ≡ true → a ≡ b
eqb_same a b e = elim (cases_eq a b) [ inl s ↦ s | inr d ↦ absurd (let f : eqb a b ≡ false = ne_eqb a b d in cc) ]

pub beside_has : (P : ℕ → ℕ → Type 0) (pairs : List (ℕ × ℕ)) (item b : ℕ) → All (λ (q : ℕ × ℕ). P q.0 q.1) pairs → beside pairs item ≡ Some b → P item b
beside_has P [] item b all e = cc
beside_has P (q ∷ pairs) item b all e =
    beside_by (eqb q.0 item) q.1 b (beside pairs item) (P item) (λ s. subst (λ (i : ℕ). P i q.1) (eqb_same q.0 item s) (All-head (λ (r : ℕ × ℕ). P r.0 r.1) q pairs all)) (λ s. beside_has P pairs item b (All-tail (λ (r : ℕ × ℕ). P r.0 r.1) q pairs all) s) e

reach_pair_by :
    (m : Moment) (target : ℕ) (c : Option Collector) (rest : List (ℕ × ℕ)) → ((x : Collector) → c ≡ Some x → IsReached m.fleet target x.id) → All (λ (q : ℕ × ℕ). IsReached m.fleet q.0 q.1) rest
    → All (λ (q : ℕ × ℕ). IsReached m.fleet q.0 q.1) (option_to_list (option_map (λ (x : Collector). (target, x.id)) c) ++ rest)
reach_pair_by m target None rest is all k d l = all k d l
reach_pair_by m target (Some c) rest is all zero d l = is c refl
reach_pair_by m target (Some c) rest is all (suc k) d l = all k d (omega arith)

reach_bin_by :
    (m : Moment) (target : ℕ) (bin : Option ℕ) (rest : List (ℕ × ℕ)) → ((b : ℕ) → bin ≡ Some b → Contains (row_for m.fleet target) b) → IsFleet m.fleet → All (λ (q : ℕ × ℕ). IsReached m.fleet q.0 q.1) rest
    → All (λ (q : ℕ × ℕ). IsReached m.fleet q.0 q.1) (option_to_list (pair_by (length m.fleet.jobs) m.fleet.collectors bin target) ++ rest)
reach_bin_by m target None rest has kept all = all
reach_bin_by m target (Some b) rest has kept all =
    reach_pair_by m target (slice_get m.fleet.collectors (b / length m.fleet.jobs)) rest
    (λ c found. reached_by m target b c (slice_get m.fleet.known target) refl (λ k e. found_has (λ (x : KnownTarget). x.job < length m.fleet.jobs) m.fleet.known target k kept.homes e) (has b refl) found) all

reach_pairs :
    (m : Moment) (f : ℕ → Option ℕ) (item : ℕ) (live : List ℕ) → IsFleet m.fleet → ((i b : ℕ) → i < length live → f (item + i) ≡ Some b → Contains (row_for m.fleet (get_or live i 0)) b)
    → All (λ (q : ℕ × ℕ). IsReached m.fleet q.0 q.1) (pairs_from (length m.fleet.jobs) m.fleet.collectors f item live)
reach_pairs m f item [] kept has = All-nil (λ (q : ℕ × ℕ). IsReached m.fleet q.0 q.1)
reach_pairs m f item (t ∷ live) kept has =
    reach_bin_by m t (f item) (pairs_from (length m.fleet.jobs) m.fleet.collectors f (item + 1) live) (λ b e. has 0 b (omega arith) (ap f (let r : item + 0 ≡ item = omega arith in r) ∙ e)) kept
    (reach_pairs m f (item + 1) live kept (λ i b l e. has (suc i) b (omega arith) (ap f (let r : item + suc i ≡ item + 1 + i = omega arith in r) ∙ e)))

pub row_at_item : (m : Moment) (item : ℕ) → item < length (live_of m.fleet) → row_of (instance_of m.fleet m.before) item ≡ row_for m.fleet (get_or (live_of m.fleet) item 0)
unfolding row_of instance_of
row_at_item m item l = get_or-map (row_for m.fleet) (live_of m.fleet) item 0 [] l

-- only live targets, each once, and only at collectors that reach them
pub allocation_live : (m : Moment) (plan : List (ℕ × ℕ)) → All (λ (q : ℕ × ℕ). is_live m.fleet q.0 ≡ true) (allocation_of m.fleet plan)
unfolding allocation_of
allocation_live m plan = live_pairs (λ t. is_live m.fleet t ≡ true) (length m.fleet.jobs) m.fleet.collectors (beside plan) 0 (live_of m.fleet) (chosen_pass (is_live m.fleet) (length m.fleet.known))

pub allocation_once : (m : Moment) (plan : List (ℕ × ℕ)) (t : ℕ) → count_by (λ (q : ℕ × ℕ). eqb q.0 t) (allocation_of m.fleet plan) ≤ 1
unfolding allocation_of
allocation_once m plan t = omega (arith, once_pairs (length m.fleet.jobs) m.fleet.collectors (beside plan) 0 t (live_of m.fleet), (chosen_once (is_live m.fleet) (length m.fleet.known) t).1)

pub allocation_ascending : (m : Moment) (plan : List (ℕ × ℕ)) → AllPairs (λ (a b : ℕ × ℕ). a.0 < b.0) (allocation_of m.fleet plan)
unfolding allocation_of
allocation_ascending m plan = pairs_ascend (length m.fleet.jobs) m.fleet.collectors (beside plan) 0 (live_of m.fleet) (chosen_ascend (is_live m.fleet) (length m.fleet.known))

pub allocation_reaching : (m : Moment) (plan : List (ℕ × ℕ)) → IsFleet m.fleet → All (λ (q : ℕ × ℕ). IsAllowed (instance_of m.fleet m.before) q.0 q.1) plan → All (λ (q : ℕ × ℕ). IsReached m.fleet q.0 q.1) (allocation_of m.fleet plan)
unfolding allocation_of
allocation_reaching m plan kept allowed =
    reach_pairs m (beside plan) 0 (live_of m.fleet) kept
    (λ i b l e. subst (λ (row : List ℕ). Contains row b) (row_at_item m i l)
    (beside_has (λ (item bin : ℕ). IsAllowed (instance_of m.fleet m.before) item bin) plan i b allowed (ap (beside plan) (let r : i ≡ 0 + i = omega arith in r) ∙ e)))
