use Rattle.std.proofs.Common.{◌≡◌, [], drop}
use Rattle.agent_documents.specs.States.{targets_from}
use Rattle.agent_documents.proofs.state.set_of.Given as goal

abbrev pub invariant-loop-target : goal.invariant-loop-target
invariant-loop-target l = targets_from l.all.keys (drop l.target-index l.targets) ≡ targets_from [] l.targets
