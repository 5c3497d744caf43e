use Rattle.std.proofs.Common.{◌≡◌, ap, ◌∙◌, rules, arith}
use Rattle.std.proofs.lemmas.Grind.{common_steps}
use Rattle.relabel.specs.Discovering.{discovered, count_of}
use Rattle.relabel.proofs.Counting.{all_counted}
use Rattle.relabel.proofs.rules.Rules.discover.Goals as goal

pub returns-clause-all : goal.returns-clause-all
returns-clause-all c =
    let found : c.loop-group.found ≡ discovered c.args.self.now c.args.job.now c.args.source c.args.groups.now = first_of (search rules, grind (arith, common_steps)) in
    ap count_of found ∙ all_counted c.args.self.now c.args.job.now c.args.source c.args.groups.now
