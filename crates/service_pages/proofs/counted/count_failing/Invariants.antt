use Rattle.std.proofs.Common.{◌≡◌, ◌≤◌, take}
use Rattle.std.specs.List.{count_by}
use Rattle.service_pages.specs.Counted.{fails}
use Rattle.service_pages.proofs.counted.count_failing.Given as goal

abbrev pub invariant-loop-source : goal.invariant-loop-source
invariant-loop-source l = (l.count ≡ count_by fails (take l.source-index l.sources)) × (l.count ≤ l.source-index)
