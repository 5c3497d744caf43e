use Rattle.std.proofs.Common.{◌+◌, ◌≤◌, get_or, subst, take, arith}
use Rattle.std.proofs.lemmas.List.{take_all}
use Rattle.std.proofs.lemmas.List.Elements.{All-more}
use Rattle.price_certificate.specs.Faults.{IsEnough}
use Rattle.price_certificate.specs.Problem.{bin_worth}
use Rattle.price_certificate.proofs.RowLemmas.{enough_more}
use Rattle.price_certificate.proofs.faults.enough_price.Goals as goal
use Rattle.price_certificate.proofs.faults.enough_price.Goals.{then-lack-price, else-lack-price}

pub loop-bin-preserved : goal.loop-bin-preserved
loop-bin-preserved c =
    let price = c.if-lack-price.price in
    let least : (c.loop-bin.price ≤ price) × (c.lack-lack.result ≤ price) = elim c.if-lack-price.branch [
      | then-lack-price w ↦ (omega (arith, w.price-is), omega (arith, w.price-is))
      | else-lack-price w ↦ (omega (arith, w.price-is), omega (arith, w.price-is))
    ] in
    All-more (λ bin. bin_worth c.args.instance.now bin ≤ price + get_or c.args.bin_prices.now bin 0) c.args.row.now c.loop-bin.bin-index 0 c.loop-bin-test.true
    (enough_more c.args.instance.now c.args.bin_prices.now c.loop-bin.price price (take c.loop-bin.bin-index c.args.row.now) least.0 c.loop-bin.invariant)
    (omega (arith, least.1, c.lack-lack.ensures))

pub returns : goal.returns
returns c = subst (IsEnough c.args.instance.now c.args.bin_prices.now c.loop-bin.price) (take_all _ _ c.loop-bin-test.false) c.loop-bin.invariant
