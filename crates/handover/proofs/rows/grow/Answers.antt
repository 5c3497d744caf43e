use Rattle.std.proofs.Common.{◌∙◌, ap, List, arith}
use Rattle.std.proofs.lemmas.Grind.{common_steps}
use Rattle.handover.specs.Spans.{Row, spans_of, room_of}
use Rattle.handover.proofs.RowLemmas.{spans_of-push, room_of-push}
use Rattle.handover.proofs.rows.grow.Goals as goal

pub loop-alloc-preserved : goal.loop-alloc-preserved
loop-alloc-preserved c =
    record {
      most = grind (arith, common_steps, c.in_ok-push.ensures.items, c.loop-alloc.invariant.most, c.loop-alloc-test.true);
      spans = λ k. ap (λ (rows : List Row). spans_of rows k) c.in_ok-push.ensures.items ∙ spans_of-push c.loop-alloc.rows.items c.new.result k c.new.ensures ∙ c.loop-alloc.invariant.spans k;
      room = λ k. let more = room_of-push c.loop-alloc.rows.items c.new.result k in let is = ap (λ (rows : List Row). room_of rows k) c.in_ok-push.ensures.items in omega (arith, c.loop-alloc.invariant.room k, more, is);
    }
