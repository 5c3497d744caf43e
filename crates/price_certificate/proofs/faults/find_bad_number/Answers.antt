use Rattle.std.proofs.Common.{sym, arith}
use Rattle.price_certificate.proofs.Finding.{found_bad_item, found_bad_bin}
use Rattle.price_certificate.proofs.faults.find_bad_number.Goals as goal

pub returns-then-item-items : goal.returns-then-item-items
returns-then-item-items c = sym (found_bad_item c.args.instance.now c.args.pairs.now c.loop-place.place c.loop-place-test.true c.loop-place.invariant (omega arith))

pub returns-then-bin-bins : goal.returns-then-bin-bins
returns-then-bin-bins c = sym (found_bad_bin c.args.instance.now c.args.pairs.now c.loop-place.place c.loop-place-test.true c.loop-place.invariant (omega arith))
