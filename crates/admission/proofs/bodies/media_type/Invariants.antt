use Rattle.std.proofs.Common.{◌≡◌, ◌+◌, ◌==◌, ◌||◌, drop, not}
use Rattle.std.specs.List.{prefix_len}
use Rattle.admission.proofs.bodies.media_type.Given as goal

abbrev pub invariant-loop-i : goal.invariant-loop-i
invariant-loop-i l = l.i + prefix_len (λ b. not ((b == 59) || ((b == 32) || (b == 9)))) (drop l.i l.value) ≡ prefix_len (λ b. not ((b == 59) || ((b == 32) || (b == 9)))) l.value
