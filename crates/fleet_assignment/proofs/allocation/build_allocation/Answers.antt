use Rattle.std.proofs.Common.{ap, arith, length, List, [], ℕ, ◌≡◌, refl, subst, sym, ◌<◌, ◌∙◌}
use Rattle.std.specs.Prelude.{AllPairs}
use Rattle.fleet_assignment.specs.Allocation.{allocation_of, pairs_from}
use Rattle.fleet_assignment.specs.Beside.{beside}
use Rattle.fleet_assignment.proofs.SoundLemmas.{allocation_ascending}
use Rattle.fleet.specs.declared.job.JobSpec.{JobSpec}
use Rattle.fleet.proofs.LiveLemmas.{live_below, some_job}
use Rattle.fleet_assignment.proofs.allocation.build_allocation.Goals as goal

pub allocation-requires-clause-numbers : goal.allocation-requires-clause-numbers
allocation-requires-clause-numbers c =
    live_below c.args.fleet.now.listed c.args.fleet.now.listed (length c.args.fleet.now.known) (length c.args.fleet.now.known) 4294967296 c.args.live.now c.args.live.now refl c.requires refl refl (omega (arith, c.jobs.ensures.kept.few_known))

pub allocation-requires-clause-jobs : goal.allocation-requires-clause-jobs
allocation-requires-clause-jobs c some =
    omega (arith, ap (λ (js : List JobSpec). length js) c.jobs.ensures.jobs, some_job c.args.fleet.now.listed c.args.fleet.now.listed c.args.fleet.now.known _ _ c.args.live.now c.args.live.now refl c.requires refl refl c.jobs.ensures.kept.homes some)

pub returns-clause-ascending : goal.returns-clause-ascending
unfolding allocation_of
returns-clause-ascending c =
    let is : c.from_vec.result ≡ allocation_of c.args.fleet.now c.args.pairs.now =
    c.from_vec.ensures ∙ c.in_ok-pairs.ensures ∙ (λ i. pairs_from (length (c.jobs.ensures.jobs i)) (c.collectors.ensures.collectors i) (beside c.args.pairs.now) 0 (c.requires i)) in
    subst (λ (ps : List (ℕ × ℕ)). AllPairs (λ (a b : ℕ × ℕ). a.0 < b.0) ps) (sym is) (allocation_ascending (record { fleet = c.args.fleet.now; before = [] }) c.args.pairs.now)
