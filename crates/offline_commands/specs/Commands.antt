-- How the program ends on the commands that answer one input.
use Rattle.std.specs.Prelude.{ℕ, List, Option}
use Rattle.command_words.specs.declared.asked.InputCommand.{InputCommand}
use Rattle.command_words.specs.declared.asked.InputCommand.TheVariants.{Check, Plan, Spread, Relabel, Replay}
use Rattle.relabel.specs.Compiling.{any_text}
use Rattle.offline_commands.specs.Answer.{EndsTo, NoFront}
use Rattle.offline_commands.specs.Check.{Checks}
use Rattle.offline_commands.specs.Plan.{Plans}
use Rattle.offline_commands.specs.Relabelling.{Relabels}
use Rattle.offline_commands.specs.Replay.{Replays, Begins}
use Rattle.offline_commands.specs.Spreading.{Spreads}
use Rattle.offline_commands.specs.declared.ending.Ending.{Ending}

-- what the reader has, the writer's bytes before and after, and how the program ends
abbrev pub RunsAs : InputCommand → Option (List ℕ) → Option (List ℕ) → Option (List ℕ) → Ending → Type 0
RunsAs Check = EndsTo Checks NoFront
RunsAs Plan = EndsTo Plans NoFront
RunsAs (Spread options) = EndsTo (Spreads options) NoFront
RunsAs Relabel = EndsTo (Relabels any_text) NoFront
RunsAs Replay = EndsTo Replays Begins
