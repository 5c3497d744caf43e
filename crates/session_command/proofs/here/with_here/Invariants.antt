use Rattle.std.proofs.Common.{◌≡◌, ◌++◌, zero, length}
use Rattle.session_command.specs.Here.{with_here as text_with_here}
use Rattle.session_command.proofs.here.with_here.Given as goal

-- what was put and what the rest gives is what the whole text gives
abbrev pub invariant-loop-first : goal.invariant-loop-first
invariant-loop-first l = l.put.items ++ text_with_here l.here zero l.rest ≡ text_with_here l.here zero l.text

abbrev pub decreases-loop-first : goal.decreases-loop-first
decreases-loop-first l = length l.rest
