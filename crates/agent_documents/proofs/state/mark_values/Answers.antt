use Rattle.std.proofs.Common.{◌∙◌, ℕ, List, sym, ap}
use Rattle.serde_json.specs.Data.{Data, item}
use Rattle.serde_json.specs.View.{items_view}
use Rattle.serde_json.specs.declared.value.Value.{Value}
use Rattle.agent_core.specs.declared.target.Series.{Series}
use Rattle.agent_documents.specs.States.{marks_data}
use Rattle.agent_documents.proofs.MarkLemmas.{joined, joined_all, joined_more}
use Rattle.agent_documents.proofs.state.mark_values.Goals as goal

pub loop-series-preserved : goal.loop-series-preserved
loop-series-preserved c =
    let rest = marks_data c.next.new.self in
    ap (λ (vs : List Value). joined (items_view vs) rest) c.in_ok-push.ensures.items
    ∙ joined_more c.loop-series.values.items c.in_ok-mark_value.field-0 rest
    ∙ ap (λ (d : Data). joined (items_view c.loop-series.values.items) (item d rest)) c.in_ok-mark_value.ensures
    ∙ ap (λ (marks : List (Series × ℕ)). joined (items_view c.loop-series.values.items) (marks_data marks)) (sym c.in-Some.ensures.steps)
    ∙ c.loop-series.invariant

pub returns : goal.returns
returns c =
    sym (joined_all (items_view c.loop-series.values.items))
    ∙ ap (λ (marks : List (Series × ℕ)). joined (items_view c.loop-series.values.items) (marks_data marks)) (sym c.in-None.ensures.steps.0)
    ∙ c.loop-series.invariant
