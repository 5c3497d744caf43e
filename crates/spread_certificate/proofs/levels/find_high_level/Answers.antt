use Rattle.std.proofs.Common.{sym, arith}
use Rattle.spread_certificate.proofs.Finding.{found_high_level}
use Rattle.spread_certificate.proofs.levels.find_high_level.Goals as goal

pub returns-then-number_at-even : goal.returns-then-number_at-even
returns-then-number_at-even c = sym (found_high_level c.args.instance.now c.args.even.now c.loop-collector.collector (omega arith) c.loop-collector.invariant (omega (arith, c.if-number_at-even.true, c.number_at.ensures)))
