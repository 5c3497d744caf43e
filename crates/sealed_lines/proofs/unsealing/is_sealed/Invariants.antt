use Rattle.std.proofs.Common.{◌≡◌, drop}
use Rattle.sealed_lines.specs.Reading.{ends_quoted}
use Rattle.sealed_lines.proofs.unsealing.is_sealed.Given as goal

abbrev pub invariant-loop-i : goal.invariant-loop-i
invariant-loop-i l = ends_quoted l.last (drop l.i l.text) ≡ ends_quoted 0 l.text
