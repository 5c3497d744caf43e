use Rattle.std.proofs.Common.{◌≡◌, ◌+◌, ◌==◌, drop, not}
use Rattle.std.specs.List.{prefix_len}
use Rattle.admission.proofs.sites.before_colon.Given as goal

abbrev pub invariant-loop-i : goal.invariant-loop-i
invariant-loop-i l = l.i + prefix_len (λ b. not (b == 58)) (drop l.i l.host) ≡ prefix_len (λ b. not (b == 58)) l.host
