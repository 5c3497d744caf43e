use Rattle.std.proofs.Common.{◌≡◌, ◌≤◌, take}
use Rattle.std.specs.List.{count_by}
use Rattle.service_pages.specs.Counted.{is_behind}
use Rattle.service_pages.proofs.counted.count_behind.Given as goal

abbrev pub invariant-loop-collector : goal.invariant-loop-collector
invariant-loop-collector l = (l.count ≡ count_by (is_behind l.allocation) (take l.collector-index l.collectors)) × (l.count ≤ l.collector-index)
