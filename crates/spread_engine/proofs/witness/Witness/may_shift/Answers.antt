use Rattle.std.proofs.Common.{◌≡◌, ◌<◌, ℕ, List, IsTrue, length, arith, subst}
use Rattle.std.specs.Prelude.{Contains}
use Rattle.std.proofs.lemmas.List.{get_or_read}
use Rattle.price_certificate.specs.Problem.{IsAllowed, capacity_of}
use Rattle.price_certificate.specs.Assignment.{uses_of_bin}
use Rattle.spread_engine.specs.Witness.{Held, pair_at}
use Rattle.spread_engine.proofs.WitnessLemmas.{may_shift}
use Rattle.spread_engine.proofs.witness.Witness.may_shift.Goals as goal

pub returns-then-count-capacity : goal.returns-then-count-capacity
returns-then-count-capacity c e =
    let p = c.args.instance.now in
    let i = c.self.inside in
    let held = c.args.self.now in
    let bin = c.args.bin in
    let q = c.index.result.now in
    let l : c.args.place < length i.pairs.items = omega (arith, c.if-place-len.false, c.len.ensures, i.pairs.ok.0) in
    let m : bin < length i.uses.items = omega (arith, c.if-bin-len.false, c.len-else-place-len.ensures, i.uses.ok.0) in
    let n : q.1 < length i.uses.items = omega (arith, c.if-from-len.false, c.len-2.ensures, i.uses.ok.0) in
    let at : q ≡ pair_at i.pairs.items c.args.place = get_or_read i.pairs.items c.args.place q l c.index.ensures (0, 0) in
    let inside : bin < held.bins = subst (λ (h : Held). bin < h.bins) c.self.view_is m in
    let yes : IsTrue c.has_bin.result = cc in
    let allowed : IsAllowed p q.0 bin = subst (λ (row : List ℕ). Contains row bin) c.row.ensures (c.has_bin.ensures yes) in
    let room : uses_of_bin held.pairs bin < capacity_of p bin = omega (arith, c.if-count-capacity.true, c.count.ensures inside, c.capacity.ensures.value) in
    may_shift p held c.args.place bin q
    (subst (λ (h : Held). c.args.place < length h.pairs) c.self.view_is l)
    inside
    (subst (λ (h : Held). q ≡ pair_at h.pairs c.args.place) c.self.view_is at)
    (subst (λ (h : Held). q.1 < h.bins) c.self.view_is n)
    allowed room (c.are_alike.ensures e)
