use Rattle.std.proofs.Common.{◌≡◌, take}
use Rattle.fleet.specs.Reached.{reach_rows}
use Rattle.fleet.proofs.fleet.Fleet.table_at.Given as goal

abbrev pub invariant-loop-place : goal.invariant-loop-place
invariant-loop-place l = l.table.rows ≡ reach_rows (take l.place l.collectors) l.known
