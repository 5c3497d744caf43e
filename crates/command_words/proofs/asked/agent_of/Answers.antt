use Rattle.std.proofs.Common.{◌∙◌, ap, codes}
use Rattle.std.specs.Prelude.{option_map}
use Rattle.std.proofs.lemmas.Result.{IfOk-weaker}
use Rattle.clap.specs.Words.{found_of}
use Rattle.clap.proofs.WalkLemmas.{first_value-rows}
use Rattle.command_words.specs.Asked.{Agents}
use Rattle.command_words.proofs.asked.agent_of.Goals as goal

pub returns-in-Some : goal.returns-in-Some
returns-in-Some c = ap (option_map Agents) (c.in-Some.ensures ∙ first_value-rows (found_of c.args.matches.now) (codes "config"))

pub returns-in-None : goal.returns-in-None
returns-in-None c =
    IfOk-weaker c.no_command.result _ _ (λ a h. h ∙ ap (option_map Agents) (c.in-None.ensures ∙ first_value-rows (found_of c.args.matches.now) (codes "config"))) c.no_command.ensures
