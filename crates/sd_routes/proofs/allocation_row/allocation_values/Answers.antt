use Rattle.json_values.proofs.Lists.{items_data_more}
use Rattle.sd_routes.specs.AllocationPages.{allocation_data}
use Rattle.sd_routes.proofs.allocation_row.allocation_values.Goals as goal

pub loop-row-preserved : goal.loop-row-preserved
loop-row-preserved c =
    items_data_more allocation_data c.args.rows.now c.loop-row.row-index c.row-item.result c.loop-row.values.items c.push.new.self.items c.in_ok-allocation_value.field-0 c.loop-row-test.true c.row-item.is c.in_ok-push.ensures.items c.in_ok-allocation_value.ensures c.loop-row.invariant
