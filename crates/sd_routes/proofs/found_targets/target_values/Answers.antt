use Rattle.json_values.proofs.Lists.{items_data_more}
use Rattle.sd_routes.specs.FoundPages.{target_data}
use Rattle.sd_routes.proofs.found_targets.target_values.Goals as goal

pub loop-target-preserved : goal.loop-target-preserved
loop-target-preserved c =
    items_data_more target_data c.args.found.now c.loop-target.target-index c.target-item.result c.loop-target.values.items c.push.new.self.items c.in_ok-target_value.field-0 c.loop-target-test.true c.target-item.is c.in_ok-push.ensures.items c.in_ok-target_value.ensures c.loop-target.invariant
