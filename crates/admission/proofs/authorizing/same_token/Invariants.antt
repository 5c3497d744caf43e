use Rattle.std.proofs.Common.{◌≡◌, ◌&&◌, drop}
use Rattle.std.specs.Prelude.{bytes_eq}
use Rattle.admission.proofs.authorizing.same_token.Given as goal

abbrev pub invariant-loop-i : goal.invariant-loop-i
invariant-loop-i l = (l.same && bytes_eq (drop l.i l.shown) (drop l.i l.token)) ≡ bytes_eq l.shown l.token
