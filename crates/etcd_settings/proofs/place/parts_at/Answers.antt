use Rattle.std.proofs.Common.{◌∙◌}
use Rattle.std.proofs.lemmas.Iterator.Splits.{YieldsList-from_str_split}
use Rattle.std.proofs.lemmas.Iterator.Consumers.{YieldsList-at, YieldsList-end}
use Rattle.etcd_settings.proofs.place.parts_at.Goals as goal

pub returns : goal.returns
returns c =
    let from = YieldsList-at c.into_iter-part-iterator.ensures.into_iter_gives (YieldsList-from_str_split c.args.sign c.args.text.now c.requires c.split-part-items.ensures.text c.split-part-items.ensures.has_more c.split-part-items.ensures.pattern) in
    let all = YieldsList-end from c.loop-part.yielded _ c.loop-part.yielded_by _ _ c.in-None.is c.next.ensures.steps in
    c.loop-part.invariant ∙ all.0
