use Rattle.std.proofs.Common.{IsTrue, sym, arith}
use Rattle.price_certificate.proofs.RowLemmas.{row_priced}
use Rattle.price_certificate.proofs.faults.find_low_bin.Goals as goal

pub returns-then-is_home_priced : goal.returns-then-is_home_priced
returns-then-is_home_priced c =
    let home : IsTrue c.is_home_priced.result = cc in
    sym (row_priced c.args.instance.now c.args.item_prices.now c.args.bin_prices.now c.args.item c.args.enough c.requires.enough (omega arith) (c.is_home_priced.ensures home))
