use Rattle.std.proofs.Common.{sym, arith}
use Rattle.price_certificate.proofs.Finding.{found_over_limit}
use Rattle.price_certificate.proofs.faults.find_full_bin.Goals as goal

pub returns-then-counts-bin : goal.returns-then-counts-bin
returns-then-counts-bin c = sym (found_over_limit c.args.instance.now c.args.pairs.now c.loop-bin.bin (omega arith) c.loop-bin.invariant (omega (arith, c.requires.uses c.loop-bin.bin (omega arith))))
