use Rattle.std.proofs.Common.{◌≡◌, true, false, arith, sym, ap, ◌∙◌}
use Rattle.std.proofs.lemmas.Result.{IfOk-weaker, on_ok_weaker}
use Rattle.replay_lines.specs.Lines.{lines_left, size_left, is_read, IsAhead}
use Rattle.replay_lines.specs.Replays.{written_from, totalled, unreadable_at}
use Rattle.replay_lines.proofs.Ahead.{ahead_on, ahead_off, ahead_end, ahead_text}
use Rattle.replay_lines.proofs.run.answer_lines.Goals.{After-write_unreadable, After-write_total}
use Rattle.replay_lines.proofs.run.answer_lines.Goals as goal

at_unread : (c : After-write_unreadable) → IsAhead (written_from 2 c.args.core.now (lines_left c.args.lines)) (unreadable_at c.loop-left.number) c.args.text.now.items c.answer_line.new.text.items
at_unread c =
    let line = c.first_line.result.0.now in
    let unread : is_read line ≡ false = cc (c.in_ok-answer_line.ensures.read, c.if-not-branch.true) in
    ahead_off (written_from 2 c.args.core.now (lines_left c.args.lines)) c.loop-left.number c.loop-left.core (lines_left c.loop-left.left) line (lines_left c.first_line.result.1) c.args.text.now.items
    c.loop-left.text.items c.answer_line.new.text.items c.loop-left.invariant.ahead (ap lines_left c.in-Some.is ∙ c.first_line.ensures.lines) unread c.in_ok-answer_line.ensures.text

pub returns-then-not-branch-clause-text : goal.returns-then-not-branch-clause-text
returns-then-not-branch-clause-text c =
    on_ok_weaker c.write_unreadable.result (λ d. ahead_text (written_from 2 c.args.core.now (lines_left c.args.lines)) (unreadable_at c.loop-left.number) c.args.text.now.items c.answer_line.new.text.items c.write_unreadable.new.text.items (at_unread c) d)
    c.write_unreadable.ensures.text

pub returns-then-not-branch-clause-ended : goal.returns-then-not-branch-clause-ended
returns-then-not-branch-clause-ended c = IfOk-weaker c.write_unreadable.result _ _ (λ e d. d ∙ sym (at_unread c).ended) c.write_unreadable.ensures.ended

pub loop-left-preserved : goal.loop-left-preserved
loop-left-preserved c =
    let line = c.first_line.result.0.now in
    let inv = c.loop-left.invariant in
    let read : is_read line ≡ true = cc (c.in_ok-answer_line.ensures.read, c.if-not-branch.false) in
    record {
      ahead =
          ahead_on (written_from 2 c.args.core.now (lines_left c.args.lines)) c.loop-left.number c.loop-left.core c.answer_line.new.core (lines_left c.loop-left.left) line (lines_left c.first_line.result.1)
          c.args.text.now.items c.loop-left.text.items c.answer_line.new.text.items inv.ahead (ap lines_left c.in-Some.is ∙ c.first_line.ensures.lines) read c.in_ok-answer_line.ensures.state c.in_ok-answer_line.ensures.text;
      counted = omega (arith, ap size_left c.in-Some.is, c.first_line.ensures.shorter, inv.counted);
    }

at_end : (c : After-write_total) → IsAhead (written_from 2 c.args.core.now (lines_left c.args.lines)) (totalled c.loop-left.core) c.args.text.now.items c.loop-left.text.items
at_end c =
    ahead_end (written_from 2 c.args.core.now (lines_left c.args.lines)) c.loop-left.number c.loop-left.core (lines_left c.loop-left.left) c.args.text.now.items c.loop-left.text.items c.loop-left.invariant.ahead
    (ap lines_left c.in_default.is)

pub returns-clause-text : goal.returns-clause-text
returns-clause-text c =
    on_ok_weaker c.write_total.result (λ d. ahead_text (written_from 2 c.args.core.now (lines_left c.args.lines)) (totalled c.loop-left.core) c.args.text.now.items c.loop-left.text.items c.write_total.new.text.items (at_end c) d)
    c.write_total.ensures.text

pub returns-clause-ended : goal.returns-clause-ended
returns-clause-ended c = IfOk-weaker c.write_total.result _ _ (λ e d. d ∙ sym (at_end c).ended) c.write_total.ensures.ended
