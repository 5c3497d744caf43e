use Rattle.std.proofs.Common.{List, ℕ, sym, subst}
use Rattle.price_certificate.specs.Faults.{AreEnough, IsEnoughForEach}
use Rattle.price_certificate.proofs.RowLemmas.{enough_each}
use Rattle.price_certificate.proofs.faults.find_price_too_low.Goals as goal

pub find_low_item-requires-clause-enough : goal.find_low_item-requires-clause-enough
find_low_item-requires-clause-enough c =
    let instance = c.args.instance.now in
    let vs = c.args.bin_prices.now in
    let rows = c.rows-rows.result.now in
    let enough : AreEnough instance vs c.in_ok-enough.enough.items rows.lists = subst (AreEnough instance vs c.in_ok-enough.enough.items) c.as_slice.ensures c.in_ok-enough.ensures in
    let each : IsEnoughForEach instance vs c.in_ok-enough.enough.items rows.list_of = enough_each instance vs c.in_ok-enough.enough.items rows.lists rows.list_of enough (sym c.rows-rows.ensures) in
    subst (λ (prices : List ℕ). IsEnoughForEach instance vs prices c.as_slice-2.result.now) (sym c.as_slice-3.ensures.value) (subst (IsEnoughForEach instance vs c.in_ok-enough.enough.items) (sym c.as_slice-2.ensures) each)
