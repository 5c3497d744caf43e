use Rattle.std.proofs.Common.{◌<◌, ◌∙◌, ap, sym, ℕ, get_or, length, arith}
use Rattle.std.proofs.Math.ListN.{length-set}
use Rattle.handover.specs.Spans.{Row, spans_of, room_of, opened}
use Rattle.handover.proofs.RowLemmas.{room_within, room_of-get_or, changed-step, spans_written, room_of-set_other, spans_of-get_or, same_item}
use Rattle.handover.proofs.rows.open_all.Goals as goal

pub index_mut-requires : goal.index_mut-requires
index_mut-requires c = omega (arith, c.loop-pair.rows.ok, room_within c.loop-pair.rows.items (get_or c.args.pairs.now c.loop-pair.pair-index (0, 0)).0 (c.loop-pair.invariant.room c.loop-pair.pair-index (0, 0) (omega arith) c.loop-pair-test.true))

pub open-requires : goal.open-requires
open-requires c =
    let q = get_or c.args.pairs.now c.loop-pair.pair-index (0, 0) in
    let room : 0 < room_of c.loop-pair.rows.items q.0 = c.loop-pair.invariant.room c.loop-pair.pair-index (0, 0) (omega arith) c.loop-pair-test.true in
    let same = room_of-get_or c.loop-pair.rows.items q.0 c.index_mut.result.now (room_within c.loop-pair.rows.items q.0 room) in
    let is = ap (λ (r : Row). r.room) c.index_mut.ensures.value in
    omega (arith, room, same, is)

pub loop-pair-preserved : goal.loop-pair-preserved
loop-pair-preserved c =
    let q = get_or c.args.pairs.now c.loop-pair.pair-index (0, 0) in
    let rows = c.loop-pair.rows.items in
    let here : c.loop-pair.pair-index < length c.args.pairs.now = c.loop-pair-test.true in
    let within : q.0 < length rows = room_within rows q.0 (c.loop-pair.invariant.room c.loop-pair.pair-index (0, 0) (omega arith) here) in
    let one = same_item c.args.pairs.now c.loop-pair.pair-index (0, 0) q here in
    let is = c.open.ensures ∙ ap (opened c.args.number q.1) (ap (λ (r : Row). r.spans) c.index_mut.ensures.value ∙ sym (spans_of-get_or rows q.0 c.index_mut.result.now within)) in
    record {
      spans = λ k. changed-step (opened c.args.number) c.args.pairs.now c.loop-pair.pair-index q k (spans_of rows k) _ here one (spans_written rows q.0 c.open.new.self (opened c.args.number q.1) k within is) ∙ c.loop-pair.invariant.spans k;
      room = λ j d l m.
          let order = c.requires.ascending c.loop-pair.pair-index j (0, 0) (omega arith) m in
          let any = ap (λ (p : ℕ × ℕ). p.0) (same_item c.args.pairs.now j (0, 0) d m) in
          let other = room_of-set_other rows q.0 c.open.new.self (get_or c.args.pairs.now j d).0 within (λ e. absurd (omega (arith, order, any, e))) in
          let room = c.loop-pair.invariant.room j d (omega arith) m in
          omega (arith, other, room);
      len = length-set rows q.0 c.open.new.self ∙ c.loop-pair.invariant.len;
    }
