use Rattle.std.proofs.Common.{◌<◌, ◌∙◌, ap, sym, subst, ℕ, OnOk, length, arith}
use Rattle.handover.specs.Spans.{Row}
use Rattle.handover.proofs.RowLemmas.{room_of-get_or, spans_of-get_or, spans_kept, room_more, room_here}
use Rattle.handover.proofs.rows.reserve.Goals as goal

pub returns-clause-room : goal.returns-clause-room
returns-clause-room c =
    let rows = c.grow.new.rows.items in
    let within : c.args.target < length rows = omega (arith, c.in_ok-grow.ensures.long) in
    subst (λ (n : ℕ). OnOk c.reserve.result (0 < n)) (sym (room_here rows c.args.target c.reserve.new.self within)) c.reserve.ensures.room

pub returns-clause-spans : goal.returns-clause-spans
returns-clause-spans c = λ k.
    let rows = c.grow.new.rows.items in
    let within : c.args.target < length rows = omega (arith, c.in_ok-grow.ensures.long) in
    spans_kept rows c.args.target c.reserve.new.self k within (c.reserve.ensures.spans ∙ ap (λ (r : Row). r.spans) c.index_mut.ensures.value ∙ sym (spans_of-get_or rows c.args.target c.index_mut.result.now within)) ∙ c.in_ok-grow.ensures.spans k

pub returns-clause-kept : goal.returns-clause-kept
returns-clause-kept c = λ k.
    let rows = c.grow.new.rows.items in
    let within : c.args.target < length rows = omega (arith, c.in_ok-grow.ensures.long) in
    let is = ap (λ (r : Row). r.room) c.index_mut.ensures.value in
    let same = room_of-get_or rows c.args.target c.index_mut.result.now within in
    let more = room_more rows c.args.target c.reserve.new.self k within (omega (arith, is, same, c.reserve.ensures.kept)) in
    omega (arith, more, c.in_ok-grow.ensures.room k)
