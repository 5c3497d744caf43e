use Rattle.std.proofs.Common.{ℕ, Vec, Global, get_or, take, refl, ap, arith}
use Rattle.std.proofs.lemmas.List.{length-take, get_or_default}
use Rattle.price_certificate.proofs.Finding.{counting_more, counting_skip, count_small}
use Rattle.price_certificate.proofs.faults.count_bins.Goals as goal
use Rattle.price_certificate.proofs.faults.count_bins.Goals.{then-bin-bins, else-bin-bins}

pub overflow_add-index_mut : goal.overflow_add-index_mut
overflow_add-index_mut c =
    let bin = (get_or c.args.pairs.now c.loop-place.place (0, 0)).1 in
    let few = count_small c.args.bins (take c.loop-place.place c.args.pairs.now) c.loop-place.counts.items bin c.loop-place.invariant c.if-bin-bins.true in
    let same = get_or_default c.loop-place.counts.items bin c.index_mut.result.now 0 (omega (arith, c.loop-place.invariant.each)) in
    omega (arith, few, same, length-take c.loop-place.place c.args.pairs.now)

pub loop-place-preserved : goal.loop-place-preserved
loop-place-preserved c =
    let q = get_or c.args.pairs.now c.loop-place.place (0, 0) in
    elim c.if-bin-bins.branch [
      | then-bin-bins w ↦ counting_more c.args.bins c.args.pairs.now c.loop-place.place c.loop-place.counts.items c.if-bin-bins.counts.items q w.index_mut.result.now c.loop-place.invariant c.loop-place-test.true refl w.if-bin-bins.true w.index_mut.ensures.value (ap (λ (v : Vec ℕ Global). v.items) w.counts-is)
      | else-bin-bins w ↦ counting_skip c.args.bins c.args.pairs.now c.loop-place.place c.loop-place.counts.items c.if-bin-bins.counts.items q c.loop-place.invariant c.loop-place-test.true refl w.if-bin-bins.false (ap (λ (v : Vec ℕ Global). v.items) w.counts-is)
    ]
