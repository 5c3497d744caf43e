use Rattle.json_values.proofs.Lists.{items_data_more, all_in_more}
use Rattle.json_values.proofs.spelled.values_of.Goals as goal

pub loop-item-preserved : goal.loop-item-preserved
loop-item-preserved g c =
    record {
      form = items_data_more g.T.Spelled.spelling c.args.items.now c.loop-item.item-index c.item-item.result c.loop-item.values.items c.push.new.self.items c.in_ok-write.field-0 c.loop-item-test.true c.item-item.is c.in_ok-push.ensures.items c.in_ok-write.ensures.form c.loop-item.invariant.form;
      reads_back = all_in_more g.T.FromJson.spelled c.args.items.now c.loop-item.item-index c.item-item.result c.loop-item.values.items c.push.new.self.items c.in_ok-write.field-0 c.loop-item-test.true c.item-item.is c.in_ok-push.ensures.items c.in_ok-write.ensures.reads_back c.loop-item.invariant.reads_back;
    }
