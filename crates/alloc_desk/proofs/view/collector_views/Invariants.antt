use Rattle.std.proofs.Common.{◌≡◌, map, take}
use Rattle.alloc_desk.specs.Views.{collector_view_of}
use Rattle.alloc_desk.proofs.view.collector_views.Given as goal

abbrev pub invariant-loop-collector : goal.invariant-loop-collector
invariant-loop-collector l = l.views ≡ map (collector_view_of l.fn.core) (take l.collector-index l.fn.core.fleet.collectors)
