use Rattle.std.proofs.Common.{ap, ◌∙◌}
use Rattle.sealed_lines.specs.Lines.{lines_left}
use Rattle.durable_journal.proofs.Noted.{not_empty, next_sealed}
use Rattle.durable_journal.proofs.by_hand.sealed_file.Goals as goal

pub loop-left-preserved-in_ok-chain-2 : goal.loop-left-preserved-in_ok-chain-2
loop-left-preserved-in_ok-chain-2 c =
    next_sealed c.args.first.now (lines_left c.args.others) (lines_left c.loop-left.left) (lines_left c.first_line.result.1) c.first_line.result.0.now c.loop-left.bytes.items c.seal_line-then-not-is_empty.new.text.items c.loop-left.chain
    c.in_ok-chain-2.chain c.loop-left.invariant (ap lines_left c.in-Some.is ∙ c.first_line.ensures.lines) (not_empty c.first_line.result.0.now c.is_empty.result c.is_empty.ensures c.if-not-is_empty.true) c.in_ok-chain-2.ensures.text
    c.in_ok-chain-2.ensures.chain
