-- States that events and renewals of the machine lead to.
use Rattle.std.proofs.Common.{◌≡◌, ℕ, List, [], ◌∷◌, None, refl}
use Rattle.allocation_core.specs.State.{State}
use Rattle.allocation_core.specs.Renewed.{renewal_refusal, renewed}
use Rattle.fleet.specs.declared.job.JobSpec.{JobSpec}
use Rattle.service_tasks.specs.Later.{IsLater}

pub later_refl : (a : State) → IsLater a a
later_refl a = record { events = []; stretches = []; granted = tt; state = refl }

pub renewed_is_later : (a b : State) (jobs : List JobSpec) (report_rounds : ℕ) → renewal_refusal a jobs ≡ None → b ≡ renewed a jobs report_rounds → IsLater a b
renewed_is_later a b jobs report_rounds granted is =
    record { events = []; stretches = record { jobs = jobs; report_rounds = report_rounds; events = [] } ∷ []; granted = (granted, tt); state = is }
