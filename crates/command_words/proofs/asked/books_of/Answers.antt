use Rattle.std.proofs.Common.{◌∙◌, sym, ap, map}
use Rattle.std.specs.Prelude.{option_map}
use Rattle.std.proofs.lemmas.Result.{IfOk-weaker}
use Rattle.command_words.specs.Asked.{Books}
use Rattle.command_words.proofs.asked.books_of.Goals as goal

pub returns-in-Some : goal.returns-in-Some
returns-in-Some c = ap (λ o. option_map Books (option_map (λ v. map (λ s. s.now) v.items) o)) (sym c.in-Some.is) ∙ ap (option_map Books) c.in_ok-paths.ensures

pub returns-in-None : goal.returns-in-None
returns-in-None c =
    IfOk-weaker c.no_command.result _ _
    (λ a h. h ∙ ap (λ o. option_map Books (option_map (λ v. map (λ s. s.now) v.items) o)) (sym c.in-None.is) ∙ ap (option_map Books) c.in_ok-paths.ensures)
    c.no_command.ensures
