use Rattle.std.proofs.Common.{List, ℕ, arith, subst}
use Rattle.scrape_books.proofs.SampleLemmas.{Cuts, cuts, still_to_count}
use Rattle.scrape_books.proofs.samples.count_samples.Goals as goal

pub loop-end-init : goal.loop-end-init
loop-end-init c = record { cuts = rw (c.into_iter-end-iterator.ensures.into_iter_gives, c.memchr_iter-end-items.ensures.value) (cuts c.args.body.now); left = omega arith }

pub loop-end-preserved : goal.loop-end-preserved
loop-end-preserved c =
    let parts = subst (λ (ends : List ℕ). Cuts c.args.body.now c.loop-end.start ends) c.in-Some.ensures.steps c.loop-end.invariant.cuts in
    record { cuts = parts.3; left = still_to_count _ _ _ _ _ _ parts.2 c.loop-end.invariant.left c.counted-count.ensures }
