use Rattle.std.proofs.Common.{ap, sym, ◌∙◌}
use Rattle.durable_journal.proofs.EventLines.{kept_on, refused_on}
use Rattle.durable_journal.proofs.writing.journal_lines.Goals.{then-is_kept+in_ok-last, else-is_kept}
use Rattle.durable_journal.proofs.writing.journal_lines.Goals as goal

pub loop-entry-preserved : goal.loop-entry-preserved
loop-entry-preserved c =
    let inv = c.loop-entry.invariant in
    elim c.if-is_kept.branch [
      | then-is_kept+in_ok-last w ↦
          kept_on c.args.chain c.loop-entry.last w.in_ok-last.last c.if-is_kept.last c.args.entries.now c.loop-entry.entry-index c.entry-item.result c.entry-item.result c.loop-entry.bytes.items w.add_event.new.bytes.items c.if-is_kept.bytes.items
          c.loop-entry-test.true c.entry-item.is (sym c.is_kept.ensures ∙ w.if-is_kept.true) inv w.in_ok-last.ensures.form w.in_ok-last.ensures.chain w.in_ok-last.ensures.says (ap (λ v. v.items) w.bytes-is) w.last-is
      | else-is_kept w ↦
          refused_on c.args.chain c.loop-entry.last c.if-is_kept.last c.args.entries.now c.loop-entry.entry-index c.entry-item.result c.entry-item.result c.loop-entry.bytes.items c.if-is_kept.bytes.items
          c.loop-entry-test.true c.entry-item.is (sym c.is_kept.ensures ∙ w.if-is_kept.false) inv (ap (λ v. v.items) w.bytes-is) w.last-is
    ]
