use Rattle.std.proofs.Common.{◌≡◌, true, false, arith, sym, ap, ◌∙◌}
use Rattle.replay_lines.specs.Lines.{lines_left, size_left, is_read}
use Rattle.replay_lines.specs.Resumes.{resumed_from}
use Rattle.replay_lines.proofs.Resumptions.{counted, counted_none, counted_one, on_end, on_read, on_unread, starts}
use Rattle.replay_lines.proofs.resuming.apply_lines.Goals.{then-not-is_empty, else-not-is_empty}
use Rattle.replay_lines.proofs.resuming.apply_lines.Goals as goal

pub loop-left-init : goal.loop-left-init
loop-left-init c = record {
  on = starts c.args.core.now (lines_left c.args.lines);
  short = omega arith;
  fewer = omega arith;
}

pub returns-then-not-branch : goal.returns-then-not-branch
returns-then-not-branch c =
    let line = c.first_line.result.0.now in
    let unread : is_read line ≡ false = cc (c.in_ok-apply_line.ensures.read, c.if-not-branch.true) in
    sym (on_unread (resumed_from c.args.core.now (lines_left c.args.lines)) c.loop-left.number c.loop-left.events c.loop-left.core (lines_left c.loop-left.left) line (lines_left c.first_line.result.1) c.loop-left.invariant.on
    (ap lines_left c.in-Some.is ∙ c.first_line.ensures.lines) unread)

pub loop-left-preserved : goal.loop-left-preserved
loop-left-preserved c =
    let line = c.first_line.result.0.now in
    let inv = c.loop-left.invariant in
    let read : is_read line ≡ true = cc (c.in_ok-apply_line.ensures.read, c.if-not-branch.false) in
    let count : c.if-not-is_empty.events ≡ counted c.loop-left.events line =
    elim c.if-not-is_empty.branch [
      | then-not-is_empty w ↦ counted_one line c.loop-left.events c.if-not-is_empty.events c.is_empty.result c.is_empty.ensures w.if-not-is_empty.true w.events-is
      | else-not-is_empty w ↦ counted_none line c.loop-left.events c.if-not-is_empty.events c.is_empty.result c.is_empty.ensures w.if-not-is_empty.false w.events-is
    ] in
    record {
      on =
          on_read (resumed_from c.args.core.now (lines_left c.args.lines)) c.loop-left.number c.loop-left.events c.if-not-is_empty.events c.loop-left.core c.apply_line.new.core (lines_left c.loop-left.left) line
          (lines_left c.first_line.result.1) inv.on (ap lines_left c.in-Some.is ∙ c.first_line.ensures.lines) read c.in_ok-apply_line.ensures.state count;
      short = omega (arith, ap size_left c.in-Some.is, c.first_line.ensures.shorter, inv.short);
      fewer =
          elim c.if-not-is_empty.branch [
            | then-not-is_empty w ↦ omega (arith, w.events-is, inv.fewer)
            | else-not-is_empty w ↦ omega (arith, w.events-is, inv.fewer)
          ];
    }

pub returns : goal.returns
returns c =
    sym (on_end (resumed_from c.args.core.now (lines_left c.args.lines)) c.loop-left.number c.loop-left.events c.loop-left.core (lines_left c.loop-left.left) c.loop-left.invariant.on (ap lines_left c.in_default.is))
