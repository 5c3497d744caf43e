use Rattle.std.proofs.Common.{◌≡◌, [], drop}
use Rattle.agent_turns.specs.Following.{served_from}
use Rattle.agent_turns.proofs.following.served_in.Given as goal

abbrev pub invariant-loop-place : goal.invariant-loop-place
invariant-loop-place l = served_from l.targets l.kept.entries (drop l.place-index l.served) ≡ served_from l.targets [] l.served
