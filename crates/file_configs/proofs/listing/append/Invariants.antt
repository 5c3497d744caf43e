use Rattle.std.proofs.Common.{◌≡◌, ◌++◌, drop}
use Rattle.file_configs.proofs.listing.append.Given as goal

abbrev pub invariant-loop-group : goal.invariant-loop-group
invariant-loop-group l = l.all ++ drop l.group-index l.groups ≡ l.initial.all ++ l.groups
