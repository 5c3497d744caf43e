use Rattle.std.proofs.Common.{◌∙◌, refl, ap}
use Rattle.std.proofs.lemmas.Result.{IfOk-weaker}
use Rattle.clap.specs.Words.{App, Shape, with_subcommand}
use Rattle.command_words.specs.Commands.{check, plan, relabel, replay, session}
use Rattle.command_words.proofs.Plain.{adds_plain}
use Rattle.command_words.proofs.commands.with_readers.Goals as goal

-- a command more
abbrev more : Shape → App → App
more shape a = with_subcommand a shape

pub returns : goal.returns
returns c =
    let checks = adds_plain _ _ _ check c.in_ok-subcommand.ensures c.told.ensures refl in
    let plans = adds_plain _ _ _ plan c.in_ok-subcommand-2.ensures c.in_ok-plan.ensures refl ∙ ap (more plan.top) checks in
    let relabels = adds_plain _ _ _ relabel c.in_ok-subcommand-3.ensures c.told-2.ensures refl ∙ ap (more relabel.top) plans in
    let replays = adds_plain _ _ _ replay c.in_ok-subcommand-4.ensures c.told-3.ensures refl ∙ ap (more replay.top) relabels in
    IfOk-weaker c.subcommand-5.result _ _ (λ r adds. adds_plain _ _ r session adds c.told-4.ensures refl ∙ ap (more session.top) replays) c.subcommand-5.ensures
