use Rattle.std.proofs.Common.{◌≡◌, drop}
use Rattle.fleet.specs.Parts.{are_lists_from}
use Rattle.fleet.proofs.restoring.are_all_lists.Given as goal

abbrev pub invariant-loop-job : goal.invariant-loop-job
invariant-loop-job l = are_lists_from l.known l.job (drop l.job l.listed) ≡ are_lists_from l.known 0 l.listed
