use Rattle.std.proofs.Common.{◌≡◌, take}
use Rattle.serde_json.specs.View.{items_view}
use Rattle.json_values.specs.Spelling.{items_data}
use Rattle.sd_routes.specs.AllocationPages.{allocation_data}
use Rattle.sd_routes.proofs.allocation_row.allocation_values.Given as goal

abbrev pub invariant-loop-row : goal.invariant-loop-row
invariant-loop-row l = items_view l.values.items ≡ items_data allocation_data (take l.row-index l.rows)
