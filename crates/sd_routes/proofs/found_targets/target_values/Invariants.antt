use Rattle.std.proofs.Common.{◌≡◌, take}
use Rattle.serde_json.specs.View.{items_view}
use Rattle.json_values.specs.Spelling.{items_data}
use Rattle.sd_routes.specs.FoundPages.{target_data}
use Rattle.sd_routes.proofs.found_targets.target_values.Given as goal

abbrev pub invariant-loop-target : goal.invariant-loop-target
invariant-loop-target l = items_view l.values.items ≡ items_data target_data (take l.target-index l.found)
