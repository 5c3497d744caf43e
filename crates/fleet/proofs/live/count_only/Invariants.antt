use Rattle.std.proofs.Common.{◌≡◌, ◌≤◌, ◌&&◌, ℕ}
use Rattle.std.specs.Prelude.{not}
use Rattle.fleet.specs.Live.{count_below, mark_at}
use Rattle.fleet.proofs.live.count_only.Given as goal

abbrev pub invariant-loop-n : goal.invariant-loop-n
invariant-loop-n l = (l.count ≡ count_below (λ (n : ℕ). mark_at l.these n && not (mark_at l.those n)) l.n) × (l.count ≤ l.n)
