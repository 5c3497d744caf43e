use Rattle.std.proofs.Common.{◌≡◌, drop}
use Rattle.serde_json.specs.View.{items_view}
use Rattle.agent_exchanges.specs.Posted.{is_over}
use Rattle.agent_exchanges.proofs.posted.is_over.Given as goal

abbrev pub invariant-loop-answer : goal.invariant-loop-answer
invariant-loop-answer l = is_over (items_view (drop l.answer-index l.answers)) ≡ is_over (items_view l.answers)
