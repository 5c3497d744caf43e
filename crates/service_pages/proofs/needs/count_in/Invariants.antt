use Rattle.std.proofs.Common.{◌≡◌, ◌≤◌, take}
use Rattle.std.specs.List.{count_by}
use Rattle.service_pages.specs.Needs.{is_needed}
use Rattle.service_pages.proofs.needs.count_in.Given as goal

abbrev pub invariant-loop-need : goal.invariant-loop-need
invariant-loop-need l = (l.count ≡ count_by (is_needed l.counted) (take l.need-index l.needs)) × (l.count ≤ l.need-index)
