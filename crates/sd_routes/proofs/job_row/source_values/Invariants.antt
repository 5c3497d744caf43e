use Rattle.std.proofs.Common.{◌≡◌, take}
use Rattle.serde_json.specs.View.{items_view}
use Rattle.json_values.specs.Spelling.{items_data}
use Rattle.sd_routes.specs.JobPages.{source_data}
use Rattle.sd_routes.proofs.job_row.source_values.Given as goal

abbrev pub invariant-loop-source : goal.invariant-loop-source
invariant-loop-source l = items_view l.values.items ≡ items_data source_data (take l.source-index l.sources)
