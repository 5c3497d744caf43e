use Rattle.std.proofs.Common.{arith}
use Rattle.std.proofs.lemmas.Bool.Decides.{nat_tests}
use Rattle.handover.proofs.SpanLemmas.{closed-from_set}
use Rattle.handover.proofs.spans.close_last.Goals as goal

pub returns-then-span : goal.returns-then-span
returns-then-span c =
    let item = c.in-Some.ensures.item in
    closed-from_set c.args.number c.args.spans.now c.in-Some.span.now _ (grind (arith, nat_tests, item.0)) item.1 (grind (arith, nat_tests, c.if-span.true))

pub returns-else-span : goal.returns-else-span
returns-else-span c =
    let item = c.in-Some.ensures.item in
    closed-from_set c.args.number c.args.spans.now c.in-Some.span.now _ (grind (arith, nat_tests, item.0)) item.1 (grind (arith, nat_tests, c.if-span.false))
