use Rattle.std.proofs.Common.{◌≡◌, map}
use Rattle.file_configs.proofs.patterns.lines_of.Given as goal

abbrev pub invariant-loop-line : goal.invariant-loop-line
invariant-loop-line l = l.all ≡ map (λ s. s.now) l.yielded
