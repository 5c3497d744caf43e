use Rattle.std.proofs.Common.{◌≡◌, ◌≤◌, take}
use Rattle.std.specs.List.{count_by}
use Rattle.service_pages.specs.Counted.{is_draining}
use Rattle.service_pages.proofs.counted.count_draining.Given as goal

abbrev pub invariant-loop-collector : goal.invariant-loop-collector
invariant-loop-collector l = (l.count ≡ count_by is_draining (take l.collector-index l.collectors)) × (l.count ≤ l.collector-index)
