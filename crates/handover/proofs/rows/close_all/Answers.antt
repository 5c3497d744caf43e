use Rattle.std.proofs.Common.{◌∙◌, ℕ, get_or}
use Rattle.handover.specs.Spans.{spans_of, closed}
use Rattle.handover.proofs.RowLemmas.{changed-step, same_item}
use Rattle.handover.proofs.rows.close_all.Goals as goal

pub loop-pair-preserved : goal.loop-pair-preserved
loop-pair-preserved c =
    let q = get_or c.args.pairs.now c.loop-pair.pair-index (0, 0) in
    let one = same_item c.args.pairs.now c.loop-pair.pair-index (0, 0) q c.loop-pair-test.true in
    record {
      spans = λ k. changed-step (λ (_ : ℕ). closed c.args.number) c.args.pairs.now c.loop-pair.pair-index q k (spans_of c.loop-pair.rows.items k) _ c.loop-pair-test.true one (c.close.ensures.spans k) ∙ c.loop-pair.invariant.spans k;
      room = λ k. c.close.ensures.room k ∙ c.loop-pair.invariant.room k;
      len = c.close.ensures.len ∙ c.loop-pair.invariant.len;
    }
