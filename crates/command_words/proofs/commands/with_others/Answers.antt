use Rattle.std.proofs.Common.{◌∙◌, refl, ap}
use Rattle.std.proofs.lemmas.Result.{IfOk-weaker}
use Rattle.clap.specs.Words.{App, with_subcommand}
use Rattle.command_words.specs.Commands.{agent, audit, books, seal, serve}
use Rattle.command_words.proofs.Plain.{adds_plain}
use Rattle.command_words.proofs.commands.with_others.Goals as goal

pub returns : goal.returns
returns c =
    let audits = adds_plain _ _ _ audit c.in_ok-subcommand.ensures c.in_ok-audit.ensures refl in
    let booked = adds_plain _ _ _ books c.in_ok-subcommand-2.ensures c.in_ok-books.ensures refl ∙ ap (λ (a : App). with_subcommand a books.top) audits in
    let seals = adds_plain _ _ _ seal c.in_ok-subcommand-3.ensures c.in_ok-seal.ensures refl ∙ ap (λ (a : App). with_subcommand a seal.top) booked in
    let serves = adds_plain _ _ _ serve c.in_ok-subcommand-4.ensures c.in_ok-serve.ensures refl ∙ ap (λ (a : App). with_subcommand a serve.top) seals in
    IfOk-weaker c.subcommand-5.result _ _
    (λ r adds. adds_plain _ _ r agent adds c.in_ok-agent.ensures refl ∙ ap (λ (a : App). with_subcommand a agent.top) serves)
    c.subcommand-5.ensures
