-- The allocator that goes on under a new list of jobs.
use Rattle.std.specs.Prelude.{◌≡◌, ◌+◌, ℕ, nat_lt, if◌then◌else◌, List, [], Option, Some, None}
use Rattle.handover.specs.Handover.{only}
use Rattle.fleet.specs.declared.job.JobSpec.{JobSpec}
use Rattle.fleet_renewal.specs.Renewed.{carried, fleet_refusal, renewed_fleet, renewed_slots}
use Rattle.fleet_renewal.specs.declared.error.RenewError.{RenewError as FleetError}
use Rattle.fleet_renewal.specs.declared.error.RenewError.TheVariants.{BadJobs as BadList, TooManyBins as ManyBins, Memory as NoMemory}
use Rattle.allocation_core.specs.State.{State, current_pairs}
use Rattle.allocation_core.specs.declared.limits.TheConstants.{LAST_ROUND}
use Rattle.allocation_core.specs.declared.renewal.RenewalError.{RenewalError}
use Rattle.allocation_core.specs.declared.renewal.RenewalError.TheVariants.{BadJobs, Memory, RoundsSpent, TooManyBins}

-- The fleet goes on under the jobs, and the current allocation is carried over in its new numbers as the first and only one. The lists
-- that were served last still have their targets, as far as their jobs go on. Nobody has taken anything and nothing is booked; the next round is open and those before
-- it are closed; the certificate is that of the last Published. From now on a report is booked of so many of the last rounds.
unfoldable pub renewed : State → List JobSpec → ℕ → State
renewed m jobs report_rounds =
    record m {
      fleet = renewed_fleet m.fleet (current_pairs m) m.served.slots jobs;
      published = only (carried m.fleet (current_pairs m) m.served.slots jobs);
      taken = [];
      served = record { slots = renewed_slots m.fleet (current_pairs m) m.served.slots jobs; numbers = [] };
      round = m.round + 1;
      booked = [];
      begun = m.round + 1;
      report_rounds = report_rounds;
    }

-- no round is left, where nothing else is against a renewal
abbrev pub rounds_left : State → Option FleetError → Option RenewalError
rounds_left m None = if nat_lt m.round LAST_ROUND then None else Some RoundsSpent
rounds_left m (Some BadList) = Some BadJobs
rounds_left m (Some ManyBins) = Some TooManyBins
rounds_left m (Some NoMemory) = Some Memory

-- the first reason against a renewal
abbrev pub renewal_refusal : State → List JobSpec → Option RenewalError
renewal_refusal m jobs = rounds_left m (fleet_refusal m.fleet jobs)

-- what a refused renewal says: the first reason against it, or that memory was wanted where there is none
abbrev pub IsWhyNot : Option RenewalError → RenewalError → Type 0
IsWhyNot None why = why ≡ Memory
IsWhyNot (Some refusal) why = why ≡ refusal
