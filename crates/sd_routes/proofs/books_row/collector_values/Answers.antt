use Rattle.json_values.proofs.Lists.{items_data_more}
use Rattle.sd_routes.specs.BooksPages.{collector_books_data}
use Rattle.sd_routes.proofs.books_row.collector_values.Goals as goal

pub loop-row-preserved : goal.loop-row-preserved
loop-row-preserved c =
    items_data_more collector_books_data c.args.rows.now c.loop-row.row-index c.row-item.result c.loop-row.values.items c.push.new.self.items c.in_ok-collector_value.field-0 c.loop-row-test.true c.row-item.is c.in_ok-push.ensures.items c.in_ok-collector_value.ensures c.loop-row.invariant
