-- A renewed state's allocation names known targets, in ascending order, and live collectors.
use Rattle.std.proofs.Common.{◌≡◌, ◌<◌, ◌+◌, ◌==◌, ◌&&◌, ◌||◌, ℕ, Bool, true, List, [], ◌∷◌, map, length, get_or, nat_lt, All, AllPairs, Result, Ok, refl, sym, ap, ◌∙◌, arith}
use Rattle.std.specs.List.{list_any}
use Rattle.std.proofs.lemmas.Bool.{and_from, lt-ltb}
use Rattle.lists.proofs.RisingLemmas.{all_from}
use Rattle.handover.specs.Handover.{last_of, only}
use Rattle.fleet.specs.Fleet.{FleetState, is_joined}
use Rattle.fleet.specs.declared.collector.Collector.{Collector}
use Rattle.fleet.specs.declared.job.JobSpec.{JobSpec}
use Rattle.fleet_renewal.specs.Renewed.{carried, carried_pair, new_number, renewed_collector, renewed_fleet, renewed_slots, survives}
use Rattle.fleet_renewal.proofs.CarriedLemmas.{carried_ascend, carries}
use Rattle.fleet_renewal.proofs.Counting.{count_within, numbered}
use Rattle.fleet_renewal.proofs.Gets.{kept_all}
use Rattle.fleet_renewal.proofs.Moving.{known_count, survivor_within}
use Rattle.allocation_core.specs.Renewed.{renewed}
use Rattle.allocation_core.specs.State.{State, current_pairs, restored}
use Rattle.core_history.specs.History.{is_allocation, slots_of, slots_said}
use Rattle.core_history.specs.Laws.{RenewedReadBack}
use Rattle.core_history.specs.declared.error.HistoryError.{HistoryError}
use Rattle.core_history.proofs.Checking.{pairs_rise, whole_said}
use Rattle.fleet_renewal.proofs.SlotLemmas.{renewed_slots_fit}

last_only : (pairs : List (ℕ × ℕ)) → last_of (only pairs) ≡ pairs
last_only [] = refl
last_only (q ∷ pairs) = refl

same_ids : (jobs : List JobSpec) (collectors : List Collector) (id : ℕ) → list_any (λ (c : Collector). c.id == id) (map (renewed_collector jobs) collectors) ≡ list_any (λ (c : Collector). c.id == id) collectors
same_ids jobs [] id = refl
same_ids jobs (c ∷ collectors) id = ap (λ (b : Bool). (c.id == id) || b) (same_ids jobs collectors id)

-- the pair names a known target and a live collector
Names : FleetState → ℕ × ℕ → Type 0
Names fleet q = (q.0 < length fleet.known) × (is_joined fleet q.1 ≡ true)

all_named : (fleet : FleetState) (pairs : List (ℕ × ℕ)) (slots : List ℕ) (jobs : List JobSpec) → All (Names (renewed_fleet fleet pairs slots jobs)) (carried fleet pairs slots jobs)
unfolding carried renewed_fleet Names
all_named fleet pairs slots jobs =
    let stays = survives fleet pairs slots jobs in
    kept_all (Names (renewed_fleet fleet pairs slots jobs)) (carried_pair fleet (new_number stays)) pairs
    (λ i q r here is.
    (let c = carries fleet (new_number stays) q r is in
    let n = numbered stays q.0 r.0 c.target in
    let below = count_within stays q.0 (length fleet.known) (survivor_within fleet pairs slots jobs q.0 n.passes) n.passes in
    let joined : is_joined fleet r.1 ≡ true = ap (λ (id : ℕ). is_joined fleet id) (sym c.collector) ∙ c.joined in
    (omega (arith, below, n.counts, known_count fleet pairs slots jobs), same_ids jobs fleet.collectors r.1 ∙ joined)))

carried_rise : (pairs : List (ℕ × ℕ)) → AllPairs (λ (a b : ℕ × ℕ). a.0 < b.0) pairs → (k : ℕ) → k + 1 < length pairs → (get_or pairs k (0, 0)).0 < (get_or pairs (k + 1) (0, 0)).0
carried_rise pairs h k l = h k (k + 1) (0, 0) (omega arith) l

is_whole : (fleet : FleetState) (pairs : List (ℕ × ℕ)) (slots : List ℕ) (jobs : List JobSpec) → AllPairs (λ (a b : ℕ × ℕ). a.0 < b.0) pairs → is_allocation (renewed_fleet fleet pairs slots jobs) (carried fleet pairs slots jobs) ≡ true
unfolding Names
is_whole fleet pairs slots jobs ascending =
    let after = renewed_fleet fleet pairs slots jobs in
    and_from _ _ (all_from (λ (q : ℕ × ℕ). nat_lt q.0 (length after.known) && is_joined after q.1) (Names after) (λ q names. and_from (nat_lt q.0 (length after.known)) (is_joined after q.1) (lt-ltb q.0 (length after.known) names.0) names.1) (carried fleet pairs slots jobs) (all_named fleet pairs slots jobs))
    (pairs_rise (carried fleet pairs slots jobs) (carried_rise (carried fleet pairs slots jobs) (carried_ascend fleet pairs slots jobs ascending)))

pub read_back : RenewedReadBack
unfolding renewed
read_back m jobs report_rounds said ascending back =
    let pairs = carried m.fleet (current_pairs m) m.served.slots jobs in
    let after = renewed_fleet m.fleet (current_pairs m) m.served.slots jobs in
    let slots = renewed_slots m.fleet (current_pairs m) m.served.slots jobs in
    let whole = ap (λ (ps : List (ℕ × ℕ)). is_allocation after ps) (last_only pairs) ∙ is_whole m.fleet (current_pairs m) m.served.slots jobs ascending in
    let same = ap (λ (ps : List (ℕ × ℕ)). (let o : Result State HistoryError = Ok (restored after ps (slots_of after (slots_said slots)) m.problem m.plan (m.round + 1) 1) in o)) (last_only pairs) in
    let said = ap (λ (ss : List ℕ). (let o : Result State HistoryError = Ok (restored after pairs ss m.problem m.plan (m.round + 1) 1) in o)) (whole_said after slots (renewed_slots_fit m.fleet (current_pairs m) m.served.slots jobs)) in
    back whole ∙ same ∙ said
