use Rattle.std.proofs.Common.{rules}
use Rattle.reach_rules.proofs.Firsts.{as_relation}
use Rattle.reach_rules.proofs.reach.Reach.reaches.Goals as goal

pub returns-clause-rule : goal.returns-clause-rule
returns-clause-rule c = as_relation c.args.self.now c.args.target.now _ (search rules)
