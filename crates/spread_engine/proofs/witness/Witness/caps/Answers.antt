use Rattle.std.proofs.Common.{arith}
use Rattle.price_certificate.proofs.Weights.{capacity-most}
use Rattle.spread_engine.proofs.WitnessLemmas.{exact}
use Rattle.spread_engine.proofs.witness.Witness.caps.Goals as goal

pub overflow_cast-count : goal.overflow_cast-count
overflow_cast-count c =
    let p = c.args.instance.now in
    let bin = c.loop-bin.bin in
    omega (arith, c.count.ensures (omega arith), c.requires.feasible.within bin, capacity-most p bin, c.is_problem.ensures.reach.items)

pub returns-clause-caps : goal.returns-clause-caps
returns-clause-caps c =
    let p = c.args.instance.now in
    let each = exact p c.args.self.now.pairs c.loop-bin.caps.items c.is_problem.ensures c.requires.feasible (omega arith) (λ b l. c.loop-bin.invariant.exact b (omega arith)) in
    record { bins = omega arith; most = λ b l. omega (arith, each b, c.requires.feasible.within b) }

pub returns-clause-within : goal.returns-clause-within
returns-clause-within c = λ b.
    let p = c.args.instance.now in
    let each = exact p c.args.self.now.pairs c.loop-bin.caps.items c.is_problem.ensures c.requires.feasible (omega arith) (λ i l. c.loop-bin.invariant.exact i (omega arith)) in
    omega (arith, each b)

pub returns-clause-exact : goal.returns-clause-exact
returns-clause-exact c =
    let p = c.args.instance.now in
    exact p c.args.self.now.pairs c.loop-bin.caps.items c.is_problem.ensures c.requires.feasible (omega arith) (λ b l. c.loop-bin.invariant.exact b (omega arith))
