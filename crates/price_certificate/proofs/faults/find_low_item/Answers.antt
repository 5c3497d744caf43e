use Rattle.std.proofs.Common.{sym, ◌∙◌, arith}
use Rattle.price_certificate.specs.Problem.{items_of}
use Rattle.price_certificate.specs.Faults.{row_fault, price_fault}
use Rattle.price_certificate.proofs.First.{first_found}
use Rattle.price_certificate.proofs.faults.find_low_item.Goals as goal

pub returns-in-Some : goal.returns-in-Some
unfolding price_fault
returns-in-Some c = sym (first_found (row_fault c.args.instance.now c.args.item_prices.now c.args.bin_prices.now) (items_of c.args.instance.now) c.loop-item.item c.in-Some.fault (omega arith) c.loop-item.invariant (sym c.find_low_bin.ensures ∙ c.in-Some.is))
