use Rattle.std.proofs.Common.{◌≡◌, [], drop}
use Rattle.serde_json.specs.View.{items_view}
use Rattle.agent_documents.specs.States.{marks_from}
use Rattle.agent_documents.proofs.state.each_mark.Given as goal

abbrev pub invariant-loop-value : goal.invariant-loop-value
invariant-loop-value l = marks_from l.marks.entries (items_view (drop l.value-index l.values)) ≡ marks_from [] (items_view l.values)
