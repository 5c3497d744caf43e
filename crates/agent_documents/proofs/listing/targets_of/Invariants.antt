use Rattle.std.proofs.Common.{◌≡◌, drop}
use Rattle.agent_documents.specs.Lists.{targets_said}
use Rattle.agent_documents.specs.Reading.{with_front}
use Rattle.agent_documents.proofs.listing.targets_of.Given as goal

-- the targets so far and those of what is left are those of all
abbrev pub invariant-loop-group : goal.invariant-loop-group
invariant-loop-group l = with_front l.targets.items (targets_said l.job (drop l.group-index l.groups)) ≡ targets_said l.job l.groups
