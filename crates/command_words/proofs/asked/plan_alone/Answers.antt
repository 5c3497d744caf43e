use Rattle.std.proofs.Common.{◌∙◌, Option, None, Some, ap, codes, if◌then◌else◌}
use Rattle.std.specs.Prelude.{is_some}
use Rattle.std.proofs.lemmas.Result.{IfOk-weaker}
use Rattle.clap.specs.Words.{Text, first_of, found_of, rows_of}
use Rattle.clap.proofs.WalkLemmas.{first_value-rows}
use Rattle.command_words.specs.Asked.{Answers, Said}
use Rattle.command_words.specs.declared.asked.InputCommand.TheVariants.{Plan}
use Rattle.command_words.proofs.asked.plan_alone.Goals as goal

-- what is asked for with these values
abbrev asked : Option Text → Option Text → Option Said
asked jobs moves = if is_some jobs then None else if is_some moves then None else Some (Answers Plan)

pub returns-in-Some : goal.returns-in-Some
returns-in-Some c =
    let found = found_of c.args.matches.now in
    let rows = rows_of found in
    IfOk-weaker c.no_spread.result _ _ (λ a h. h ∙ ap (λ (o : Option Text). asked o (first_of (codes "most-moves") rows)) (c.in-Some.ensures ∙ first_value-rows found (codes "jobs"))) c.no_spread.ensures

pub returns-in-Some-get_str : goal.returns-in-Some-get_str
returns-in-Some-get_str c =
    let found = found_of c.args.matches.now in
    let rows = rows_of found in
    let moves = ap (λ (o : Option Text). asked None o) (c.in-Some-get_str.ensures ∙ first_value-rows found (codes "most-moves")) in
    let jobs = ap (λ (o : Option Text). asked o (first_of (codes "most-moves") rows)) (c.in-None.ensures ∙ first_value-rows found (codes "jobs")) in
    IfOk-weaker c.no_spread-in-Some-get_str.result _ _ (λ a h. h ∙ moves ∙ jobs) c.no_spread-in-Some-get_str.ensures

pub returns-in-None-get_str : goal.returns-in-None-get_str
returns-in-None-get_str c =
    let found = found_of c.args.matches.now in
    let rows = rows_of found in
    let moves = ap (λ (o : Option Text). asked None o) (c.in-None-get_str.ensures ∙ first_value-rows found (codes "most-moves")) in
    moves ∙ ap (λ (o : Option Text). asked o (first_of (codes "most-moves") rows)) (c.in-None.ensures ∙ first_value-rows found (codes "jobs"))
