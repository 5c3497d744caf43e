-- What is told of the state in which a journal ends.
use Rattle.std.specs.Prelude.{ℕ, not, count_by}
use Rattle.allocation_core.specs.State.{State, current_pairs}
use Rattle.fleet.specs.Fleet.{live_of}
use Rattle.fleet_renewal.specs.Renewed.{is_held}

-- how many live targets no live collector holds in the current allocation
unfoldable pub uncovered : State → ℕ
uncovered m = count_by (λ target. not (is_held m.fleet (current_pairs m) target)) (live_of m.fleet)
