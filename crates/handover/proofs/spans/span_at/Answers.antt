use Rattle.std.proofs.Common.{arith, sym}
use Rattle.handover.proofs.SpanLemmas.{found_run, found_none, found_nothing}
use Rattle.handover.proofs.spans.span_at.Goals as goal

pub returns-then-count-eq0 : goal.returns-then-count-eq0
returns-then-count-eq0 c = sym (found_nothing c.args.number c.args.spans.now c.begun-count.result c.begun-count.ensures.parted c.if-count-eq0.true)

pub returns-then-number-span : goal.returns-then-number-span
returns-then-number-span c = found_run c.requires.0 c.args.number c.args.spans.now c.begun-count.result _ c.requires.1 c.begun-count.ensures.parted c.begun-count.ensures.bound (omega arith) c.if-number-span.true

pub returns-else-number-span : goal.returns-else-number-span
returns-else-number-span c = sym (found_none c.requires.0 c.args.number c.args.spans.now c.begun-count.result _ c.requires.1 c.begun-count.ensures.parted c.begun-count.ensures.bound (omega arith) c.if-number-span.false)
