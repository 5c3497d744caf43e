use Rattle.std.proofs.Common.{◌≡◌, ◌⊎◌, inl, inr, ◌+◌, [], true, false}
use Rattle.journal_blocks.proofs.BlockLemmas.{whole_step}
use Rattle.journal_blocks.proofs.torn.whole_count.Goals as goal
use Rattle.journal_blocks.proofs.torn.whole_count.Goals.{then-ends_line, else-ends_line}

pub loop-i-preserved : goal.loop-i-preserved
loop-i-preserved c =
    let way : ((c.ends_line.result ≡ true) × (c.if-ends_line.count ≡ c.loop-i.i + 1)) ⊎ ((c.ends_line.result ≡ false) × (c.if-ends_line.count ≡ c.loop-i.count)) = elim c.if-ends_line.branch [ then-ends_line w ↦ inl (w.if-ends_line.true, w.count-is) | else-ends_line w ↦ inr (w.if-ends_line.false, w.count-is) ] in
    whole_step (λ b. b.now) c.args.blocks.now c.loop-i.i c.loop-i.count c.if-ends_line.count (record { ref_ptr = (0, 0); now = [] }) c.ends_line.result c.loop-i-test.true c.ends_line.ensures c.loop-i.invariant way
