use Rattle.std.proofs.Common.{rules, ◌∙◌, add-one}
use Rattle.std.proofs.lemmas.List.{take_rest}
use Rattle.sealed_lines.proofs.Texts.{lines_at, lines_whole}
use Rattle.sealed_lines.proofs.line.first_line.Goals as goal

pub returns-in-Some-clause-lines : goal.returns-in-Some-clause-lines
returns-in-Some-clause-lines c =
    let text = c.args.text.now in
    let first = lines_at text c.in-Some.end (search rules) (search rules) (search rules) in
    first ∙ simp (take_rest, add-one)

pub returns-in-None-clause-lines : goal.returns-in-None-clause-lines
returns-in-None-clause-lines c = lines_whole c.args.text.now (search rules)
