use Rattle.std.proofs.Common.{sym, ap, ◌∙◌}
use Rattle.std.proofs.lemmas.Result.{IfOk-weaker}
use Rattle.serde_json.specs.View.{view}
use Rattle.fleet.specs.Fleet.{FleetState}
use Rattle.fleet.specs.Parts.{parts_fault}
use Rattle.core_history.proofs.Checking.{reads_back}
use Rattle.core_history.proofs.writing.history_value.Goals as goal

pub returns-clause-reads_back : goal.returns-clause-reads_back
returns-clause-reads_back c =
    let kept = c.current-number.ensures.kept in
    let none = ap (λ (f : FleetState). parts_fault f) (sym c.fleet.ensures) ∙ c.jobs-jobs.ensures.good in
    IfOk-weaker c.parts_value.result _ _ (λ v parts. reads_back c.args.core.now (view v) parts none kept.opened (record { few = kept.few_slots; given = kept.given_slots })) c.parts_value.ensures.parts
