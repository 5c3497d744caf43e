use Rattle.std.proofs.Common.{sym, ◌∙◌}
use Rattle.spread_certificate.proofs.JudgeLemmas.{spread_fine, even_spread, evenest_spread}
use Rattle.spread_certificate.proofs.judge.check_spread.Goals as goal

pub returns-clause-best : goal.returns-clause-best
returns-clause-best c = λ e. spread_fine c.args.instance.now c.args.spread.now c.is_problem.ensures (sym c.in_ok-fault.ensures ∙ e)

pub returns-clause-even : goal.returns-clause-even
returns-clause-even c = λ e. even_spread c.args.instance.now c.args.spread.now c.is_problem.ensures (sym c.in_ok-fault.ensures ∙ e)

pub returns-clause-evenest : goal.returns-clause-evenest
returns-clause-evenest c = λ e. evenest_spread c.args.instance.now c.args.spread.now c.is_problem.ensures (sym c.in_ok-fault.ensures ∙ e)
