use Rattle.std.proofs.Common.{◌≡◌, ◌≤◌, drop}
use Rattle.admission.specs.Bodies.{is_longer}
use Rattle.admission.specs.declared.bodies.TheConstants.{LONGEST_BODY}
use Rattle.admission.proofs.bodies.is_longer.Given as goal

abbrev pub invariant-loop-byte : goal.invariant-loop-byte
invariant-loop-byte l = (l.number ≤ LONGEST_BODY) × (is_longer l.number (drop l.byte-index l.digits) ≡ is_longer 0 l.digits)
