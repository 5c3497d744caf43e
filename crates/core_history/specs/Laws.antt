-- A renewed state is written and read whole.
use Rattle.std.specs.Prelude.{◌≡◌, ◌<◌, ℕ, List, AllPairs, Ok}
use Rattle.fleet.specs.declared.job.JobSpec.{JobSpec}
use Rattle.allocation_core.specs.Renewed.{renewed}
use Rattle.allocation_core.specs.State.{State, current_pairs}
use Rattle.core_history.specs.History.{ReadsBack}
use Rattle.core_history.specs.declared.error.HistoryError.{HistoryError}
use Rattle.std.specs.Prelude.{Result}

-- what a renewed state's history says, if it reads back, is that state, with reports booked of one round
abbrev pub RenewedReadBack : Type 0
RenewedReadBack = (m : State) (jobs : List JobSpec) (report_rounds : ℕ) (said : Result State HistoryError) → AllPairs (λ (a b : ℕ × ℕ). a.0 < b.0) (current_pairs m) → ReadsBack (renewed m jobs report_rounds) said → said ≡ Ok (renewed m jobs 1)
