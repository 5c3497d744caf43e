use Rattle.std.proofs.Common.{sym, ◌∙◌}
use Rattle.price_certificate.proofs.First.{first_more, unless_true}
use Rattle.price_certificate.proofs.Finding.{found_out_of_reach, allowed_as}
use Rattle.price_certificate.proofs.faults.find_out_of_reach.Goals as goal

pub returns-then-not-has_bin : goal.returns-then-not-has_bin
returns-then-not-has_bin c = sym (found_out_of_reach c.args.instance.now c.args.pairs.now c.loop-place.place c.loop-place-test.true c.loop-place.invariant (allowed_as c.args.instance.now c.row.result.now _ _ c.has_bin.result c.row.ensures c.has_bin.ensures ∙ c.if-not-has_bin.true))

pub loop-place-preserved : goal.loop-place-preserved
loop-place-preserved c = first_more _ c.loop-place.place c.loop-place.invariant (unless_true _ _ (allowed_as c.args.instance.now c.row.result.now _ _ c.has_bin.result c.row.ensures c.has_bin.ensures ∙ c.if-not-has_bin.false))
