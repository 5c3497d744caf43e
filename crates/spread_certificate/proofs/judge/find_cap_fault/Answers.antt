use Rattle.std.proofs.Common.{sym, arith}
use Rattle.spread_certificate.proofs.JudgeLemmas.{cap_found}
use Rattle.spread_certificate.proofs.judge.find_cap_fault.Goals as goal

pub returns-then-caps-bin : goal.returns-then-caps-bin
returns-then-caps-bin c = sym (cap_found c.args.instance.now c.args.caps.now c.loop-bin.bin (omega arith) (omega arith) c.loop-bin.invariant (omega arith))
