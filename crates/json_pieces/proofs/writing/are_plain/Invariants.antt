use Rattle.std.proofs.Common.{◌≡◌, drop}
use Rattle.serde_json.specs.Data.{items_depth}
use Rattle.serde_json.specs.View.{items_view}
use Rattle.json_pieces.proofs.writing.are_plain.Given as goal

abbrev pub invariant-loop-value : goal.invariant-loop-value
invariant-loop-value l = items_depth (items_view (drop l.value-index l.values)) ≡ 0 → items_depth (items_view l.values) ≡ 0
