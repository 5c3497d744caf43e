use Rattle.std.proofs.lemmas.Result.{IfOk-weaker}
use Rattle.serde_json.specs.View.{view}
use Rattle.price_certificate.proofs.InstanceLemmas.{spelled_in}
use Rattle.price_certificate.proofs.Plans.{spelled_plan}
use Rattle.price_certificate.proofs.document.shared_document_value.Goals as goal

pub returns-clause-instance : goal.returns-clause-instance
returns-clause-instance c = IfOk-weaker c.value_of.result _ _ (λ v is. spelled_in (view v) c.args.instance.now is) c.value_of.ensures.instance

pub returns-clause-plan : goal.returns-clause-plan
returns-clause-plan c = IfOk-weaker c.value_of.result _ _ (λ v is. spelled_plan (view v) c.args.plan.now is) c.value_of.ensures.plan
