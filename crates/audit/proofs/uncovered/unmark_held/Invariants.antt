use Rattle.std.proofs.Common.{ℕ}
use Rattle.std.specs.Prelude.{◌==◌, ◌&&◌}
use Rattle.fleet.specs.Fleet.{is_joined}
use Rattle.audit.proofs.Tallying.{MarksTaken}
use Rattle.audit.proofs.uncovered.unmark_held.Given as goal

abbrev pub invariant-loop-pair : goal.invariant-loop-pair
invariant-loop-pair l = MarksTaken (λ (q : ℕ × ℕ) (n : ℕ). (q.0 == n) && is_joined l.fleet q.1) l.pairs l.pair-index l.fn.marks l.marks
