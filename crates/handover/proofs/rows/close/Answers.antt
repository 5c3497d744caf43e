use Rattle.std.proofs.Common.{◌<◌, ◌∙◌, ap, sym, length}
use Rattle.std.proofs.Math.ListN.{length-set}
use Rattle.handover.specs.Spans.{closed}
use Rattle.handover.proofs.RowLemmas.{spans_written, room_written, spans_of-row, room_of-row, nothing_closed}
use Rattle.handover.proofs.rows.close.Goals as goal

pub returns-in-Some : goal.returns-in-Some
returns-in-Some c =
    let rows = c.args.rows.now.items in
    let row = c.in-Some.row.now in
    let within : c.args.target < length rows = c.in-Some.ensures.item.3.0 in
    record {
      spans = λ k. spans_written rows c.args.target c.close.new.self (closed c.args.number) k within (c.close.ensures.spans ∙ ap (closed c.args.number) (sym (spans_of-row rows c.args.target row within c.in-Some.ensures.value)));
      room = λ k. room_written rows c.args.target c.close.new.self k within (c.close.ensures.room ∙ sym (room_of-row rows c.args.target row within c.in-Some.ensures.value));
      len = length-set rows c.args.target c.close.new.self;
    }

pub returns-in_default-clause-spans : goal.returns-in_default-clause-spans
returns-in_default-clause-spans c = λ k. nothing_closed c.args.rows.now.items c.args.target c.args.number k c.in_default.ensures.item.3
