use Rattle.json_values.proofs.Lists.{items_data_more, all_in_more}
use Rattle.core_history.proofs.part.values_of.Goals as goal

pub loop-part-preserved : goal.loop-part-preserved
loop-part-preserved g c =
    record {
      form = items_data_more g.T.Part.part_data c.args.parts.now c.loop-part.part-index c.part-item.result c.loop-part.values.items c.push.new.self.items c.in_ok-write.field-0 c.loop-part-test.true c.part-item.is c.in_ok-push.ensures.items c.in_ok-write.ensures.form c.loop-part.invariant.form;
      reads_back = all_in_more g.T.Part.part_in c.args.parts.now c.loop-part.part-index c.part-item.result c.loop-part.values.items c.push.new.self.items c.in_ok-write.field-0 c.loop-part-test.true c.part-item.is c.in_ok-push.ensures.items c.in_ok-write.ensures.reads_back c.loop-part.invariant.reads_back;
    }
