use Rattle.json_values.proofs.Lists.{items_data_more}
use Rattle.sd_routes.specs.JobPages.{source_data}
use Rattle.sd_routes.proofs.job_row.source_values.Goals as goal

pub loop-source-preserved : goal.loop-source-preserved
loop-source-preserved c =
    items_data_more source_data c.args.sources.now c.loop-source.source-index c.source-item.result c.loop-source.values.items c.push.new.self.items c.in_ok-source_value.field-0 c.loop-source-test.true c.source-item.is c.in_ok-push.ensures.items c.in_ok-source_value.ensures c.loop-source.invariant
