use Rattle.std.proofs.Common.{ℕ, replicate, ap, ◌∙◌}
use Rattle.price_certificate.specs.Problem.{items_of}
use Rattle.assign_engine.proofs.Starting.{start_sound}
use Rattle.assign_engine.proofs.start.start.Goals as goal

pub returns-clause-sound : goal.returns-clause-sound
returns-clause-sound c =
    let p = c.args.instance.now in
    start_sound p c.in_ok-seating.seating.seats c.in_ok-item_prices.item_prices.items c.in_ok-bin_prices.bin_prices.items c.is_problem.ensures c.in_ok-seating.ensures.start
    (c.in_ok-item_prices.ensures ∙ ap (λ (m : ℕ). replicate m c.top_weight.result) c.items.ensures.count ∙ ap (λ (m : ℕ). replicate (items_of p) m) c.top_weight.ensures)
    (c.in_ok-bin_prices.ensures ∙ ap (λ (m : ℕ). replicate {A = ℕ} m 0) c.bins.ensures.count)
