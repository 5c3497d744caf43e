use Rattle.std.proofs.Common.{◌+◌, ◌<◌, ℕ, ap, sym, ◌∙◌, arith}
use Rattle.spread_certificate.specs.Even.{owners_of}
use Rattle.spread_certificate.proofs.Finding.{found_off_level}
use Rattle.spread_certificate.proofs.levels.find_off_level.Goals as goal

pub returns-then-load-level-2 : goal.returns-then-load-level-2
returns-then-load-level-2 c =
    let p = c.args.instance.now in
    let even = c.args.even.now in
    let k = c.loop-collector.collector in
    let low : k < owners_of p even.jobs = omega arith in
    let load = c.requires.loads.items k (omega arith) in
    sym (found_off_level p even c.args.pairs.now k low c.loop-collector.invariant (λ e. c.if-load-level.true (load ∙ e ∙ sym c.number_at-level.ensures)) (λ e. c.if-load-level-2.true (load ∙ e ∙ sym (ap (λ (n : ℕ). n + 1) c.number_at-level.ensures))))
