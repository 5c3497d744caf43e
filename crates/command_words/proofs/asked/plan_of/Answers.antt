use Rattle.std.proofs.Common.{◌≡◌, ◌∙◌, List, Option, Some, ap, refl, codes}
use Rattle.std.specs.Option.{option_map_or}
use Rattle.std.proofs.lemmas.Result.{IfOk-weaker}
use Rattle.clap.specs.Words.{Row, Text, first_of, found_of, rows_of}
use Rattle.clap.proofs.WalkLemmas.{first_value-rows}
use Rattle.command_words.specs.Asked.{Answers, Said, plans_alone_by, plans_by, spread_by}
use Rattle.command_words.specs.declared.asked.InputCommand.TheVariants.{Spread}
use Rattle.command_words.specs.declared.asked.SpreadOptions.{SpreadOptions}
use Rattle.command_words.proofs.asked.plan_of.Goals as goal

-- what is asked with these values
abbrev spreads : List Row → Text → Option Said
spreads rows slack = Some (Answers (Spread (spread_by slack (first_of (codes "jobs") rows) (first_of (codes "most-moves") rows))))

asked : (rows : List Row) (slack : Text) (jobs most_moves : Option Text) → Some slack ≡ first_of (codes "spread") rows → jobs ≡ first_of (codes "jobs") rows → most_moves ≡ first_of (codes "most-moves") rows
    → Some (Answers (Spread (spread_by slack jobs most_moves))) ≡ plans_by rows
asked rows slack jobs most_moves is_slack is_jobs is_moves =
    let same : Some (Answers (Spread (spread_by slack jobs most_moves))) ≡ spreads rows slack = rw (is_jobs, is_moves) refl in
    same ∙ ap (λ (o : Option Text). option_map_or (spreads rows) o (plans_alone_by rows)) is_slack

pub returns-in-Some : goal.returns-in-Some
returns-in-Some c =
    let found = found_of c.args.matches.now in
    ap (λ (o : SpreadOptions). Some (Answers (Spread o))) c.spread_options-options.ensures
    ∙ asked (rows_of found) _ _ _
    (c.in-Some.ensures ∙ first_value-rows found (codes "spread"))
    (c.get_str-in-Some.ensures ∙ first_value-rows found (codes "jobs"))
    (c.get_str-in-Some-2.ensures ∙ first_value-rows found (codes "most-moves"))

pub returns-in-None : goal.returns-in-None
returns-in-None c =
    let found = found_of c.args.matches.now in
    let rows = rows_of found in
    IfOk-weaker c.plan_alone.result _ _ (λ a h. h ∙ ap (λ (o : Option Text). option_map_or (spreads rows) o (plans_alone_by rows)) (c.in-None.ensures ∙ first_value-rows found (codes "spread"))) c.plan_alone.ensures
