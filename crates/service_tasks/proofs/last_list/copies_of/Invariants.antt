use Rattle.std.proofs.Common.{◌≡◌, take}
use Rattle.service_tasks.proofs.last_list.copies_of.Given as goal

abbrev pub invariant-loop-target : goal.invariant-loop-target
invariant-loop-target l = l.all.items ≡ take l.target-index l.targets
