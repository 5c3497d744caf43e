use Rattle.std.proofs.Common.{ℕ, List, arith, ◌∙◌, sym, subst}
use Rattle.price_certificate.specs.Certificate.{IsCertified}
use Rattle.price_certificate.proofs.Optimal.{optimal}
use Rattle.price_certificate.proofs.InstanceRows.{allowed_bin}
use Rattle.assign_engine.specs.Seats.{pairs_of}
use Rattle.assign_engine.proofs.Certify.{certified}
use Rattle.assign_engine.proofs.Ordered.{ordered}
use Rattle.assign_engine.proofs.engine.solve.Goals as goal

pub pairs-requires-clause-bins : goal.pairs-requires-clause-bins
pairs-requires-clause-bins c = λ t b s. omega (arith, allowed_bin c.args.instance.now c.is_problem.ensures t b (c.in_ok-work.ensures.sound.allowed t b s), c.is_problem.ensures.reach.bins)

pub returns-clause-certified : goal.returns-clause-certified
returns-clause-certified c =
    let p = c.args.instance.now in
    let e = c.in_ok-work.ensures in
    let m = c.insert_all.new.matching in
    let us = m.item_prices.items in
    let vs = m.bin_prices.items in
    let done = certified p m.seating.seats us vs c.is_problem.ensures e.sound e.none in
    subst (λ (x : List (ℕ × ℕ)). IsCertified p x c.from_vec-2.result c.from_vec-3.result) (sym (c.from_vec.ensures ∙ c.in_ok-pairs.ensures))
    (subst (λ (x : List ℕ). IsCertified p (pairs_of m.seating.seats) x c.from_vec-3.result) (sym c.from_vec-2.ensures)
    (subst (λ (x : List ℕ). IsCertified p (pairs_of m.seating.seats) us x) (sym c.from_vec-3.ensures) done))

pub returns-clause-optimal : goal.returns-clause-optimal
returns-clause-optimal c = optimal c.args.instance.now _ _ _ c.is_problem.ensures (returns-clause-certified c)

pub returns-clause-ordered : goal.returns-clause-ordered
returns-clause-ordered c = ordered c.insert_all.new.matching.seating.seats _ (c.from_vec.ensures ∙ c.in_ok-pairs.ensures)
