use Rattle.std.proofs.Common.{◌≡◌, true, false, arith, sym, ap, ◌∙◌}
use Rattle.sealed_lines.specs.Lines.{lines_in, lines_left, size_left}
use Rattle.sealed_lines.specs.Reading.{has_seal, opened_lines}
use Rattle.sealed_lines.proofs.LineByLine.{on_end, on_nothing, on_right, on_wrong}
use Rattle.sealed_lines.proofs.unsealing.open_lines.Goals as goal

pub returns-then-is_end : goal.returns-then-is_end
returns-then-is_end c =
    let line = c.first_line.result.0.now in
    let others = lines_left c.first_line.result.1 in
    sym (on_end (opened_lines c.args.plain.now.items 1 c.args.chain.now (lines_in c.args.text.now)) c.loop-left.plain.items c.loop-left.number c.loop-left.chain (lines_left c.loop-left.left) line others c.loop-left.invariant.on
    (ap lines_left c.in-Some.is ∙ c.first_line.ensures.lines) (sym c.is_end.ensures ∙ c.if-is_end.true))

pub returns-then-not-branch : goal.returns-then-not-branch
returns-then-not-branch c =
    let line = c.first_line.result.0.now in
    let others = lines_left c.first_line.result.1 in
    let wrong : has_seal c.loop-left.chain line ≡ false = cc (c.in_ok-open_line.ensures.right, c.if-not-branch.true) in
    sym (on_wrong (opened_lines c.args.plain.now.items 1 c.args.chain.now (lines_in c.args.text.now)) c.loop-left.plain.items c.loop-left.number c.loop-left.chain (lines_left c.loop-left.left) line others c.loop-left.invariant.on
    (ap lines_left c.in-Some.is ∙ c.first_line.ensures.lines) (sym c.is_end.ensures ∙ c.if-is_end.false) wrong)

pub loop-left-preserved : goal.loop-left-preserved
loop-left-preserved c =
    let line = c.first_line.result.0.now in
    let others = lines_left c.first_line.result.1 in
    let held : c.in_ok-open_line.field-0 ≡ true = cc c.if-not-branch.false in
    let right : has_seal c.loop-left.chain line ≡ true = sym c.in_ok-open_line.ensures.right ∙ held in
    record {
      on =
          on_right (opened_lines c.args.plain.now.items 1 c.args.chain.now (lines_in c.args.text.now)) c.loop-left.plain.items c.open_line.new.plain.items c.loop-left.number c.loop-left.chain c.open_line.new.chain (lines_left c.loop-left.left) line others
          c.loop-left.invariant.on (ap lines_left c.in-Some.is ∙ c.first_line.ensures.lines) (sym c.is_end.ensures ∙ c.if-is_end.false) right (c.in_ok-open_line.ensures.chain held) (c.in_ok-open_line.ensures.text held);
      short = omega (arith, ap size_left c.in-Some.is, c.first_line.ensures.shorter, c.loop-left.invariant.short);
    }

pub returns : goal.returns
returns c =
    sym (on_nothing (opened_lines c.args.plain.now.items 1 c.args.chain.now (lines_in c.args.text.now)) c.loop-left.plain.items c.loop-left.number c.loop-left.chain (lines_left c.loop-left.left) c.loop-left.invariant.on (ap lines_left c.in_default.is))
