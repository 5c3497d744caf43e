use Rattle.std.proofs.Common.{ap, ◌∙◌}
use Rattle.std.proofs.lemmas.Result.{IfOk-weaker}
use Rattle.fleet_events.specs.Targets.{target_in}
use Rattle.fleet_events.proofs.TargetLemmas.{target_back}
use Rattle.fleet_events.proofs.writing.target_value.Goals as goal

pub returns-clause-reads_back : goal.returns-clause-reads_back
returns-clause-reads_back c =
    IfOk-weaker c.to_value.result _ _ (λ v form. ap target_in form ∙ target_back c.map_laws.ensures.last c.finishes_again.ensures c.args.target.now c.to_value.ensures.is_final) c.to_value.ensures.form
