use Rattle.std.proofs.Common.{sym, ◌∙◌}
use Rattle.spread_certificate.proofs.JudgeLemmas.{best_fine}
use Rattle.spread_certificate.proofs.judge.first_fault.Goals as goal

pub check_even-requires : goal.check_even-requires
check_even-requires c = (best_fine c.args.instance.now c.args.spread.now c.is_problem.ensures (sym c.in_ok-fault.ensures ∙ c.in_default.is)).feasible
