use Rattle.std.proofs.Common.{◌≡◌}
use Rattle.serde_json.specs.View.{items_view}
use Rattle.agent_documents.specs.States.{marks_data}
use Rattle.agent_documents.proofs.MarkLemmas.{joined}
use Rattle.agent_documents.proofs.state.mark_values.Given as goal

-- the values so far and the marks that are left are all marks
abbrev pub invariant-loop-series : goal.invariant-loop-series
invariant-loop-series l = joined (items_view l.values.items) (marks_data l.series-iterator) ≡ marks_data l.marks.entries
