use Rattle.std.proofs.Common.{sym, arith}
use Rattle.lists.proofs.RisingLemmas.{rises_from}
use Rattle.fleet.proofs.PartsLemmas.{falls_at}
use Rattle.fleet.proofs.restoring.rises.Goals as goal

pub returns-then-numbers-i : goal.returns-then-numbers-i
returns-then-numbers-i c = sym (falls_at c.args.numbers.now c.loop-i.i c.loop-i.auto.i c.loop-i-test.true c.if-numbers-i.true)

pub returns : goal.returns
returns c = sym (rises_from c.args.numbers.now (λ k l. c.loop-i.invariant k (omega (arith, l, c.loop-i-test.false))))
