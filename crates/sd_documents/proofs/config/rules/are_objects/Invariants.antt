use Rattle.std.proofs.Common.{◌≡◌, drop}
use Rattle.serde_json.specs.View.{items_view}
use Rattle.sd_documents.specs.Config.{all_objects}
use Rattle.sd_documents.proofs.config.rules.are_objects.Given as goal

abbrev pub invariant-loop-value : goal.invariant-loop-value
invariant-loop-value l = all_objects (items_view (drop l.value-index l.values)) ≡ all_objects (items_view l.values)
