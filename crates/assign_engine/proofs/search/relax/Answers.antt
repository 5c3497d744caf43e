use Rattle.std.proofs.Common.{◌≡◌, ℕ, List, get_or, arith, sym, ap, ◌∙◌}
use Rattle.std.proofs.lemmas.List.{get_or_read}
use Rattle.price_certificate.specs.Problem.{row_of}
use Rattle.price_certificate.proofs.InstanceRows.{allowed_bin}
use Rattle.assign_engine.proofs.Relaxing.{allowed_in, relaxed_same, relaxed_lower}
use Rattle.assign_engine.proofs.search.relax.Goals as goal
use Rattle.assign_engine.proofs.search.relax.Goals.{then-distance+in_ok-note, else-distance}

pub index-requires : goal.index-requires
index-requires c =
    let a = allowed_in c.args.instance.now c.args.item c.loop-bin.bin-index c.row-bin-items.result.now c.row-bin-items.ensures c.loop-bin-test.true in
    omega (arith, allowed_bin c.args.instance.now c.is_problem.ensures c.args.item _ a, c.requires.prices, c.args.matching.now.bin_prices.ok.0)

pub distance-requires : goal.distance-requires
distance-requires c =
    let a = allowed_in c.args.instance.now c.args.item c.loop-bin.bin-index c.row-bin-items.result.now c.row-bin-items.ensures c.loop-bin-test.true in
    omega (arith, allowed_bin c.args.instance.now c.is_problem.ensures c.args.item _ a, c.requires.sizes.distances, c.loop-bin.invariant.relaxed.changed.distance_count)

pub loop-bin-preserved : goal.loop-bin-preserved
loop-bin-preserved c =
    let p = c.args.instance.now in
    let ats = c.args.matching.now.seating.seats in
    let vs = c.args.matching.now.bin_prices.items in
    let t = c.args.item in
    let k = c.loop-bin.bin-index in
    let row = c.row-bin-items.result.now in
    let b = get_or row k 0 in
    let a = allowed_in p t k row c.row-bin-items.ensures c.loop-bin-test.true in
    let in_range = allowed_bin p c.is_problem.ensures t b a in
    let priced = c.requires.priced b a in
    let at_k : get_or (row_of p t) k 0 ≡ b = ap (λ (r : List ℕ). get_or r k 0) (sym c.row-bin-items.ensures) in
    let i = c.loop-bin.invariant.relaxed in
    let price : c.from.result ≡ get_or vs b 0 = c.from.ensures ∙ get_or_read vs b c.index.result.now (omega (arith, in_range, c.requires.prices)) c.index.ensures 0 in
    record {
      row = c.row-bin-items.ensures;
      relaxed = elim c.if-distance.branch [
        | then-distance+in_ok-note w ↦
            relaxed_lower p ats vs t c.args.base k b c.args.tables.now c.loop-bin.tables c.is_problem.ensures i at_k a _ w.lower.new.self w.note.new.tables _ w.tables-is w.lower.ensures
            (omega (arith, in_range, c.requires.sizes.distances, i.changed.distance_count))
            (omega (arith, in_range, c.requires.sizes.vias, i.changed.via_count))
            (omega (arith, w.if-distance.true, c.distance.ensures))
            (omega (arith, priced, price, c.weight.ensures, c.from-in-loop-bin.ensures))
            w.in_ok-note.ensures
        | else-distance w ↦
            relaxed_same p ats vs t c.args.base k b c.args.tables.now c.loop-bin.tables c.is_problem.ensures i at_k a _ w.tables-is
            (omega (arith, priced, price, c.weight.ensures, c.from-in-loop-bin.ensures, w.if-distance.false, c.distance.ensures))
      ];
    }
