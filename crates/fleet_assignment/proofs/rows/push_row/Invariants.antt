use Rattle.std.proofs.Common.{◌≡◌, ◌++◌, drop, length}
use Rattle.fleet_assignment.specs.Instance.{row_from}
use Rattle.fleet_assignment.proofs.rows.push_row.Given as goal

abbrev pub invariant-loop-place : goal.invariant-loop-place
invariant-loop-place l = l.bins.items ++ row_from (length l.fleet.jobs) l.place (drop l.place l.fleet.collectors) l.known ≡ l.fn.bins.items ++ row_from (length l.fleet.jobs) 0 l.fleet.collectors l.known
