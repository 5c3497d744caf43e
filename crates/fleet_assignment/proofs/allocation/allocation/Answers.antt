use Rattle.std.proofs.Common.{ℕ, None, Option, List, ap, ◌∙◌, arith}
use Rattle.std.specs.Prelude.{slice_index_or}
use Rattle.fleet_assignment.specs.Beside.{beside}
use Rattle.fleet_assignment.proofs.Placing.{pairs_alike}
use Rattle.fleet_assignment.proofs.allocation.allocation.Goals as goal

pub returns : goal.returns
returns c =
    c.in_ok-pairs.ensures
    ∙ pairs_alike c.args.jobs c.args.collectors.now (λ (i : ℕ). slice_index_or c.as_slice.result.now i None) (beside c.args.pairs.now) 0 c.args.live.now
    (λ i l. ap (λ (bs : List (Option ℕ)). slice_index_or bs i None) c.as_slice.ensures.value ∙ c.in_ok-bins.ensures.placed.at i (omega (arith, c.in_ok-bins.ensures.each)))
