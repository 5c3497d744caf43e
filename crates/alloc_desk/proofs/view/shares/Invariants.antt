use Rattle.std.proofs.Common.{◌≡◌, map, take}
use Rattle.alloc_desk.specs.Views.{share_of}
use Rattle.alloc_desk.proofs.view.shares.Given as goal

abbrev pub invariant-loop-collector : goal.invariant-loop-collector
invariant-loop-collector l = l.all ≡ map (share_of l.fn.core l.fn.job) (take l.collector-index l.fn.core.fleet.collectors)
