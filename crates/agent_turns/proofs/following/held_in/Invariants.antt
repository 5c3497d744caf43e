use Rattle.std.proofs.Common.{◌≡◌, [], drop}
use Rattle.agent_turns.specs.Following.{held_from}
use Rattle.agent_turns.proofs.following.held_in.Given as goal

abbrev pub invariant-loop-listed : goal.invariant-loop-listed
invariant-loop-listed l = held_from l.all.keys (drop l.listed-index l.targets) ≡ held_from [] l.targets
