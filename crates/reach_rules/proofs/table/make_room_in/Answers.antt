use Rattle.std.proofs.Common.{◌<◌, ap, ◌∙◌, arith, rules}
use Rattle.std.proofs.lemmas.List.{get_or-set_other}
use Rattle.reach_rules.specs.Table.{spare_in}
use Rattle.reach_rules.specs.declared.row.Row.{Row}
use Rattle.reach_rules.proofs.TableLemmas.{room_more, shown_set, spare_all, spare_at}
use Rattle.reach_rules.proofs.table.make_room_in.Goals as goal

pub returns-in_err-make_room-clause-same : goal.returns-in_err-make_room-clause-same
returns-in_err-make_room-clause-same c = shown_set c.loop-place.rows c.loop-place.place c.make_room.new.row c.index-rows-place.result c.make_room.ensures.same ∙ c.loop-place.invariant.same

pub returns-in_err-make_room-clause-full : goal.returns-in_err-make_room-clause-full
returns-in_err-make_room-clause-full c =
    let rest = c.loop-place.invariant.rest c.loop-place.place c.index-rows-place.result (omega arith) in
    let full : spare_in c.args.rows.now < c.args.more =
    omega (arith, c.in_err-make_room.ensures.full, ap (λ (row : Row). row.reached.spare) rest, spare_at c.args.rows.now c.loop-place.place c.index-rows-place.result c.loop-place-test.true) in
    search rules

pub loop-place-preserved : goal.loop-place-preserved
loop-place-preserved c =
    record {
      same = shown_set c.loop-place.rows c.loop-place.place c.make_room.new.row c.index-rows-place.result c.make_room.ensures.same ∙ c.loop-place.invariant.same;
      room = room_more c.loop-place.rows c.loop-place.place c.args.more c.make_room.new.row (omega (arith, c.loop-place-test.true, c.loop-place.auto.rows)) c.in_ok-make_room.ensures.ok c.loop-place.invariant.room;
      rest = λ k d later. get_or-set_other c.loop-place.rows c.loop-place.place k c.make_room.new.row d (omega (arith, later)) ∙ c.loop-place.invariant.rest k d (omega (arith, later));
    }

pub returns-clause-ok : goal.returns-clause-ok
returns-clause-ok c =
    spare_all c.loop-place.rows c.args.more c.ranges.more.fits (λ k d less. c.loop-place.invariant.room k d (omega (arith, less, c.loop-place-test.false, c.loop-place.auto.rows)))
