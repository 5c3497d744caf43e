use Rattle.std.proofs.Common.{ℕ, get_or, arith}
use Rattle.std.proofs.lemmas.List.Sums.{sum_by_more}
use Rattle.spread_certificate.specs.EvenFaults.{level_worth}
use Rattle.spread_certificate.proofs.levels.worth_of_pairs.Goals as goal

pub loop-pair-preserved : goal.loop-pair-preserved
loop-pair-preserved c =
    let q = get_or c.args.pairs.now c.loop-pair.pair-index (0, 0) in
    let more = sum_by_more (λ (r : ℕ × ℕ). level_worth c.args.instance.now c.args.even.now r.0 r.1) c.args.pairs.now c.loop-pair.pair-index (0, 0) c.loop-pair-test.true in
    (omega (arith, more, c.level_worth.ensures q.0, c.loop-pair.invariant.0), omega (arith, c.loop-pair.invariant.1))
