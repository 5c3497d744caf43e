use Rattle.std.proofs.Common.{sym, arith}
use Rattle.core_history.proofs.Checking.{ascending, pairs_fall, pairs_rise}
use Rattle.core_history.proofs.restoring.rises.Goals as goal

pub returns-then-pairs-i-clause-rises : goal.returns-then-pairs-i-clause-rises
returns-then-pairs-i-clause-rises c = sym (pairs_fall c.args.pairs.now c.loop-i.i c.loop-i.auto.i c.loop-i-test.true c.if-pairs-i.true)

pub returns-clause-rises : goal.returns-clause-rises
returns-clause-rises c = sym (pairs_rise c.args.pairs.now (λ k l. c.loop-i.invariant k (omega (arith, l, c.loop-i-test.false))))

pub returns-clause-ascending : goal.returns-clause-ascending
returns-clause-ascending c e = ascending c.args.pairs.now (pairs_rise c.args.pairs.now (λ k l. c.loop-i.invariant k (omega (arith, l, c.loop-i-test.false))))
