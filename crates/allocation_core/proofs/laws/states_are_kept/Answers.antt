use Rattle.allocation_core.specs.State.{first_state}
use Rattle.allocation_core.proofs.StepLemmas.{run_kept, start_kept}
use Rattle.allocation_core.proofs.laws.states_are_kept.Goals as goal

pub returns : goal.returns
returns c = λ jobs report_rounds events. run_kept (first_state jobs report_rounds) events (start_kept jobs report_rounds)
