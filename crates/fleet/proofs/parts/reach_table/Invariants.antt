use Rattle.std.proofs.Common.{◌≡◌, take}
use Rattle.fleet.specs.Reached.{reach_rows}
use Rattle.fleet.proofs.parts.reach_table.Given as goal

abbrev pub invariant-loop-collector : goal.invariant-loop-collector
invariant-loop-collector l = l.table.rows ≡ reach_rows (take l.collector-index l.collectors) l.known
