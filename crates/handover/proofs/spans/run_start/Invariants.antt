use Rattle.std.proofs.Common.{◌≡◌, ◌<◌, ◌≤◌, ℕ, Some}
use Rattle.handover.specs.Spans.{holder_at}
use Rattle.handover.proofs.spans.run_start.Given as goal

abbrev pub invariant-loop-before : goal.invariant-loop-before
invariant-loop-before l =
    record {
      some : 0 < l.first;
      begun : l.first ≤ l.number;
      held : (k : ℕ) → l.first ≤ k → k ≤ l.number → holder_at l.spans k ≡ Some l.span.collector;
    }

abbrev pub decreases-loop-before : goal.decreases-loop-before
decreases-loop-before l = l.first
