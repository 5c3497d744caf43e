use Rattle.std.proofs.Common.{◌≡◌, ◌+◌, ◌-◌, ◌*◌, ℕ, List, Some, take, get_or, set, arith, sym, ap, ◌∙◌, subst}
use Rattle.std.proofs.lemmas.List.{get_or_read, take_all}
use Rattle.assign_engine.specs.Repriced.{IsRepricing}
use Rattle.assign_engine.specs.Usable.{one_if}
use Rattle.assign_engine.specs.Seats.{sits, seat}
use Rattle.assign_engine.specs.Roll.{Seated, times_in}
use Rattle.assign_engine.specs.declared.matching.Matching.{Matching}
use Rattle.assign_engine.specs.Searched.{IsSearched, IsListed, IsRepriced}
use Rattle.assign_engine.proofs.Repricing.{turn_here, turn_fresh, turn_there, turn_range, repricing_far, repricing_near, repricing_ends, may_raise}
use Rattle.assign_engine.proofs.reprice.reprice.Goals as goal
use Rattle.assign_engine.proofs.reprice.reprice.Goals.{then-distance-cost, else-distance-cost}

pub distance-distance-requires : goal.distance-distance-requires
distance-distance-requires c =
    let p = c.args.instance.now in
    let d = c.args.tables.now.distances in
    let cost = c.args.tables.now.cost in
    let bins = c.settled_bins-bin-items.result.now in
    let listed = subst (IsListed p d cost) (sym c.settled_bins-bin-items.ensures) c.requires.listed in
    omega (arith, turn_range p d cost bins listed c.loop-bin.bin-index c.loop-bin-test.true, c.requires.sizes.distances)

pub reprice_bin-requires-clause-bin : goal.reprice_bin-requires-clause-bin
reprice_bin-requires-clause-bin c =
    let p = c.args.instance.now in
    let d = c.args.tables.now.distances in
    let cost = c.args.tables.now.cost in
    let bins = c.settled_bins-bin-items.result.now in
    let listed = subst (IsListed p d cost) (sym c.settled_bins-bin-items.ensures) c.requires.listed in
    omega (arith, turn_range p d cost bins listed c.loop-bin.bin-index c.loop-bin-test.true, c.requires.sound.bins, c.loop-bin.invariant.repricing.bins)

pub reprice_bin-requires-clause-rise : goal.reprice_bin-requires-clause-rise
reprice_bin-requires-clause-rise c =
    let p = c.args.instance.now in
    let old = c.args.matching.now in
    let d = c.args.tables.now.distances in
    let cost = c.args.tables.now.cost in
    let bins = c.settled_bins-bin-items.result.now in
    let k = c.loop-bin.bin-index in
    let listed = subst (IsListed p d cost) (sym c.settled_bins-bin-items.ensures) c.requires.listed in
    let b = get_or bins k 0 in
    let e : c.cost-cost.result ≡ cost = c.cost-cost.ensures in
    let r = may_raise p old.seating.seats old.item_prices.items old.bin_prices.items c.args.item d cost c.is_problem.ensures c.requires.sound c.requires.new c.requires.item c.requires.searched b (turn_range p d cost bins listed k c.loop-bin-test.true) (omega (arith, c.if-distance-cost.true, c.distance-distance.ensures, e)) in
    omega (arith, r, e, c.distance-distance.ensures, c.loop-bin.invariant.repricing.left_bin b (turn_fresh p d cost bins listed k c.loop-bin-test.true))

pub reprice_bin-requires-clause-falls : goal.reprice_bin-requires-clause-falls
reprice_bin-requires-clause-falls c = λ t e.
    (let p = c.args.instance.now in
    let d = c.args.tables.now.distances in
    let cost = c.args.tables.now.cost in
    let bins = c.settled_bins-bin-items.result.now in
    let k = c.loop-bin.bin-index in
    let b = get_or bins k 0 in
    let listed = subst (IsListed p d cost) (sym c.settled_bins-bin-items.ensures) c.requires.listed in
    let s = subst (λ (x : Seated). seat x.seats t ≡ Some b) c.loop-bin.invariant.seating e in
    let cost_is : c.cost-cost.result ≡ cost = c.cost-cost.ensures in
    let kept = c.requires.searched.kept t b s (omega (arith, c.if-distance-cost.true, c.distance-distance.ensures, cost_is)) in
    omega (arith, kept, c.loop-bin.invariant.repricing.left t b s (turn_fresh p d cost bins listed k c.loop-bin-test.true), c.distance-distance.ensures, cost_is))

pub loop-bin-preserved : goal.loop-bin-preserved
loop-bin-preserved c =
    let p = c.args.instance.now in
    let old = c.args.matching.now in
    let ats = old.seating.seats in
    let us = old.item_prices.items in
    let vs = old.bin_prices.items in
    let d = c.args.tables.now.distances in
    let bins = c.settled_bins-bin-items.result.now in
    let listed = subst (IsListed p d c.args.tables.now.cost) (sym c.settled_bins-bin-items.ensures) c.requires.listed in
    let k = c.loop-bin.bin-index in
    let b = get_or bins k 0 in
    let cost = c.cost-cost.result in
    let i = c.loop-bin.invariant in
    let now = c.loop-bin.matching in
    let fresh = turn_fresh p d c.args.tables.now.cost bins listed k c.loop-bin-test.true in
    let here = turn_here p d c.args.tables.now.cost bins listed k c.loop-bin-test.true in
    let there = turn_there p d c.args.tables.now.cost bins listed k c.loop-bin-test.true in
    let F = λ (m : Matching). (record { seating : m.seating ≡ old.seating; repricing : IsRepricing ats us vs d cost (take (k + 1) bins) m.item_prices.items m.bin_prices.items }) in
    elim c.if-distance-cost.branch [
      | then-distance-cost w ↦
          let e = w.reprice_bin.ensures in
          let new = w.reprice_bin.new.matching in
          let by = cost - c.distance-distance.result in
          let falls = subst (λ (s : Seated). (t : ℕ) → get_or new.item_prices.items t 0 + one_if (sits b (seat s.seats t)) * by ≡ get_or now.item_prices.items t 0) i.seating e.items in
          subst F (sym w.matching-is) (record {
            seating = e.seating ∙ i.seating;
            repricing = repricing_near ats us vs d cost (take k bins) (take (k + 1) bins) b now.item_prices.items now.bin_prices.items i.repricing fresh here there by new.item_prices.items new.bin_prices.items
                (omega (arith, w.if-distance-cost.true, c.distance-distance.ensures))
                (omega (arith, turn_range p d c.args.tables.now.cost bins listed k c.loop-bin-test.true, c.requires.sound.bins))
                (ap (λ (m : ℕ). cost - m) c.distance-distance.ensures) e.count e.bins falls;
          })
      | else-distance-cost w ↦
          subst F (sym w.matching-is) (record {
            seating = i.seating;
            repricing = repricing_far ats us vs d cost (take k bins) (take (k + 1) bins) b now.item_prices.items now.bin_prices.items i.repricing fresh here there (omega (arith, w.if-distance-cost.false, c.distance-distance.ensures));
          })
    ]

pub returns-clause-repriced : goal.returns-clause-repriced
returns-clause-repriced c =
    let p = c.args.instance.now in
    let old = c.args.matching.now in
    let d = c.args.tables.now.distances in
    let now = c.loop-bin.matching in
    let bins = c.settled_bins-bin-items.result.now in
    let k = c.loop-bin.bin-index in
    let i = c.loop-bin.invariant.repricing in
    let cost_is : c.cost-cost.result ≡ c.args.tables.now.cost = c.cost-cost.ensures in
    let all : take k bins ≡ c.args.tables.now.settled_bins = take_all k bins (omega (arith, c.loop-bin-test.false)) ∙ c.settled_bins-bin-items.ensures in
    let x = get_or_read now.item_prices.items c.args.item c.index_mut.result.now (omega (arith, i.items, c.requires.sound.items, c.requires.item)) c.index_mut.ensures.value 0 in
    subst (λ (m : ℕ). IsRepriced p old.seating.seats old.item_prices.items old.bin_prices.items c.args.item d m (set now.item_prices.items c.args.item (c.index_mut.result.now - c.cost-cost.result)) now.bin_prices.items) cost_is
    (repricing_ends p old.seating.seats old.item_prices.items old.bin_prices.items c.args.item d c.cost-cost.result c.is_problem.ensures c.requires.sound c.requires.new c.requires.item
    (subst (λ (m : ℕ). IsSearched p old.seating.seats old.item_prices.items old.bin_prices.items c.args.item d m) (sym cost_is) c.requires.searched)
    (take k bins) now.item_prices.items now.bin_prices.items _
    (λ b l n. (let h = c.requires.listed.near b l (omega (arith, cost_is)) in omega (arith, h, ap (λ (m : List ℕ). times_in m b) all))) i
    (ap (λ (m : ℕ). set now.item_prices.items c.args.item (m - c.cost-cost.result)) x))
