use Rattle.std.proofs.Common.{◌<◌, ℕ, List, get_or, length, ap, arith}
use Rattle.std.proofs.lemmas.List.Elements.{All-get_or}
use Rattle.price_certificate.specs.Problem.{bins_of, row_of}
use Rattle.price_certificate.proofs.InstanceRows.{is_row}
use Rattle.price_certificate.proofs.Finding.{low_as}
use Rattle.price_certificate.proofs.faults.find_low_pair.Goals as goal

pub bounds-bin_prices-bin : goal.bounds-bin_prices-bin
bounds-bin_prices-bin c =
    let row = row_of c.args.instance.now c.args.item in
    let bound : c.loop-place.place < length row = omega (arith, ap (λ (xs : List ℕ). length xs) c.row-row.ensures) in
    let below : get_or row c.loop-place.place 0 < bins_of c.args.instance.now = All-get_or (λ b. b < bins_of c.args.instance.now) row c.loop-place.place 0 bound (is_row c.args.instance.now c.is_problem.ensures c.args.item c.requires.item).in_range in
    omega (arith, ap (λ (xs : List ℕ). get_or xs c.loop-place.place 0) c.row-row.ensures, below)

pub returns-then-is_worth_more : goal.returns-then-is_worth_more
returns-then-is_worth_more c = low_as c.args.instance.now c.args.item_prices.now c.args.bin_prices.now c.args.item c.loop-place.place c.row-row.result.now c.row-row.ensures c.loop-place-test.true c.loop-place.invariant (c.is_worth_more.ensures.0 c.if-is_worth_more.true)
