use Rattle.std.proofs.Common.{◌≡◌, ◌++◌, drop}
use Rattle.handover.specs.Handover.{targets_of}
use Rattle.handover.specs.Spans.{pairs_from}
use Rattle.handover.proofs.rows.held_at.Given as goal

abbrev pub invariant-loop-target : goal.invariant-loop-target
invariant-loop-target l = l.held.items ++ targets_of (pairs_from (drop l.target l.rows) l.target l.number) l.collector ≡ targets_of (pairs_from l.rows 0 l.number) l.collector
