use Rattle.std.proofs.Common.{◌++◌, Bool, List, ap, sym, ◌∙◌, length}
use Rattle.std.specs.Prelude.{map}
use Rattle.std.proofs.lemmas.List.{length-map}
use Rattle.reach_rules.proofs.TableLemmas.{answers_alike}
use Rattle.reach_rules.proofs.row.push_answers.Goals as goal

pub returns-in-Some : goal.returns-in-Some
returns-in-Some g c =
    let targets = map g.T.HasTarget.final_target c.args.targets.now in
    c.push_all_reserved.ensures
    ∙ ap (λ (bits : List Bool). c.args.reached.now.bits ++ bits) (sym (answers_alike c.args.reach.now targets (length c.args.targets.now) c.in-Some.answer c.in-Some.ensures (sym (length-map c.args.targets.now g.T.HasTarget.final_target))))
