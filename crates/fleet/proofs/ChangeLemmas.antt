-- What every fleet keeps holds after each change that nothing is against.
use Rattle.std.proofs.Common.{◌≡◌, ℕ, suc, ◌+◌, ◌*◌, ◌<◌, List, [], ◌∷◌, ◌++◌, Bool, true, false, Option, Some, None, length, cond, refl, arith}
use Rattle.std.specs.Prelude.{nat_lt, ◌||◌}
use Rattle.std.specs.List.{position_from}
use Rattle.std.specs.Option.{option_map_or}
use Rattle.std.specs.Str.{bytes_eq}
use borrow.Author.Tests.{ltb-true, ltb-false}
use Rattle.label_sets.specs.Target.{FinalTarget}
use Rattle.reach_rules.specs.OwnLimits.{LimitList}
use Rattle.reach_rules.specs.declared.rule.ReachRule.{ReachRule}
use Rattle.fleet.specs.Changes.{join_refusal, list_refusal, name_refusal, relisted, room_refusal, source_refusal, with_collector, with_listing}
use Rattle.fleet.specs.Fleet.{FleetState, id_named}
use Rattle.fleet.specs.IsFleet.{IsFleet}
use Rattle.fleet.specs.Jobs.{are_for_jobs, job_named, sources_at}
use Rattle.fleet.specs.declared.collector.Collector.{Collector}
use Rattle.fleet.specs.declared.job.JobSpec.{JobSpec}
use Rattle.fleet.specs.declared.limits.TheConstants.{LAST_COLLECTOR, MOST_BINS, MOST_COLLECTORS}
use Rattle.fleet.specs.declared.outcome.JoinRefusal.{JoinRefusal}
use Rattle.fleet.specs.declared.outcome.JoinRefusal.TheVariants.{TooManyCollectors, IdsSpent, UnknownJob as JoinForNoJob}
use Rattle.fleet.specs.declared.outcome.ListRefusal.{ListRefusal}
use Rattle.fleet.specs.declared.outcome.ListRefusal.TheVariants.{UnknownJob, UnknownSource}
use Rattle.fleet.proofs.KeptLemmas.{joined_kept}
use Rattle.fleet.proofs.LiveLemmas.{relisted_kept}

-- the index that is found is one of the list
position_by : (c : Bool) (i n more : ℕ) (o : Option ℕ) → (o ≡ Some n → n < i + 1 + more) → cond c (Some i) o ≡ Some n → n < i + suc more
position_by true i n more o h e = let s : i ≡ n = cc in omega arith
position_by false i n more o h e = omega (arith, h e)

pub position_below : {X : Type 0} (p : X → Bool) (i n : ℕ) (xs : List X) → position_from p i xs ≡ Some n → n < i + length xs
position_below p i n [] e = cc
position_below p i n (x ∷ xs) e = position_by (p x) i n (length xs) (position_from p (i + 1) xs) (λ s. position_below p (i + 1) n xs s) e

or_false : (a b : Bool) → (a || b) ≡ false → (a ≡ false) × (b ≡ false)
or_false true b e = cc
or_false false b e = (refl, e)

room_by : (a b : Bool) → ◌≡◌ {A = Option JoinRefusal} (cond a (Some TooManyCollectors) (cond b None (Some IdsSpent))) None → (a ≡ false) × (b ≡ true)
room_by true b e = cc
room_by false false e = cc
room_by false true e = (refl, refl)

name_by : (fleet : FleetState) (o : Option ℕ) → name_refusal fleet o ≡ None → (o ≡ None) × (room_refusal fleet ≡ None)
name_by fleet None e = (refl, e)
name_by fleet (Some id) e = cc

limits_by : (b : Bool) (o : Option JoinRefusal) → cond b o (Some JoinForNoJob) ≡ None → o ≡ None
limits_by true o e = e
limits_by false o e = cc

-- after a collector joined
pub collector_kept : (fleet : FleetState) (name : List ℕ) (reach : List ReachRule) (limits : LimitList) → IsFleet fleet → join_refusal fleet name limits ≡ None → IsFleet (with_collector fleet name reach limits)
collector_kept fleet name reach limits kept free =
    let fine = name_by fleet (id_named fleet.collectors name) (limits_by (are_for_jobs fleet.jobs limits) (name_refusal fleet (id_named fleet.collectors name)) free) in
    let tests = room_by (nat_lt MOST_COLLECTORS (length fleet.collectors + 1) || nat_lt MOST_BINS (length fleet.jobs * (length fleet.collectors + 1))) (nat_lt fleet.last_collector LAST_COLLECTOR) fine.1 in
    let counts = or_false (nat_lt MOST_COLLECTORS (length fleet.collectors + 1)) (nat_lt MOST_BINS (length fleet.jobs * (length fleet.collectors + 1))) tests.0 in
    let c : Collector = record { id = fleet.last_collector + 1; name = name; reach = reach; draining = false; limits = limits } in
    joined_kept fleet c (fleet.collectors ++ c ∷ []) kept fine.0 refl (ltb-false MOST_COLLECTORS (length fleet.collectors + 1) counts.0) (ltb-false MOST_BINS (length fleet.jobs * (length fleet.collectors + 1)) counts.1)
    (ltb-true fleet.last_collector LAST_COLLECTOR tests.1) refl

source_by : (b : Bool) (o : Option ListRefusal) → cond b o (Some UnknownSource) ≡ None → o ≡ None
source_by true o e = e
source_by false o e = cc

listing_by :
    (fleet : FleetState) (o : Option ℕ) (source : ℕ) (targets : List FinalTarget) → ((j : ℕ) → o ≡ Some j → j < length fleet.jobs) → IsFleet fleet → option_map_or (λ (job : ℕ). source_refusal fleet job source targets) o (Some UnknownJob) ≡ None
    → IsFleet (option_map_or (λ (job : ℕ). relisted fleet job source targets) o fleet)
listing_by fleet None source targets home kept e = kept
listing_by fleet (Some job) source targets home kept e = relisted_kept fleet job source targets _ _ kept (home job refl) refl refl (source_by (nat_lt source (sources_at fleet.jobs job)) _ e)

-- after a source listed targets
pub listing_kept : (fleet : FleetState) (name : List ℕ) (source : ℕ) (targets : List FinalTarget) → IsFleet fleet → list_refusal fleet name source targets ≡ None → IsFleet (with_listing fleet name source targets)
listing_kept fleet name source targets kept free = listing_by fleet (job_named fleet.jobs name) source targets (λ j s. omega (arith, position_below (λ (job : JobSpec). bytes_eq job.name name) 0 j fleet.jobs s)) kept free
