use Rattle.std.proofs.Common.{◌≡◌, ◌++◌, drop, take}
use Rattle.agent_core.specs.Choices.{after, chosen}
use Rattle.agent_core.proofs.choosing.choose.Given as goal

-- the reports so far and those of what is left are those of all
abbrev pub invariant-loop-listed : goal.invariant-loop-listed
invariant-loop-listed l =
    record {
      told : l.reports.items ++ chosen l.memory l.head l.said.entries (drop l.listed-index l.targets) ≡ chosen l.fn.memory l.head l.said.entries l.targets;
      so_far : l.memory ≡ after l.fn.memory l.head l.said.entries (take l.listed-index l.targets);
      rest : after l.memory l.head l.said.entries (drop l.listed-index l.targets) ≡ after l.fn.memory l.head l.said.entries l.targets;
    }
