use Rattle.std.proofs.Common.{◌<◌, ap, ℕ, sym, arith}
use Rattle.spread_certificate.specs.Even.{owners_of, with_slack}
use Rattle.spread_certificate.proofs.Finding.{found_high_caps}
use Rattle.spread_certificate.proofs.levels.find_high_caps.Goals as goal

pub returns-then-rooms-collector : goal.returns-then-rooms-collector
returns-then-rooms-collector c =
    let p = c.args.instance.now in
    let even = c.args.even.now in
    let k = c.loop-collector.collector in
    let low : k < owners_of p even.jobs = omega arith in
    let load = c.requires.loads.items k (omega arith) in
    let room = c.requires.rooms.items k (omega arith) in
    let slack = ap (λ (n : ℕ). with_slack even.slack n) load in
    sym (found_high_caps p even c.args.caps.now c.args.pairs.now k low c.loop-collector.invariant (omega (arith, slack, room, c.with_slack-most.ensures, c.if-rooms-collector.true)))
