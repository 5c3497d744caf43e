use Rattle.std.proofs.lemmas.Result.{IfOk-weaker}
use Rattle.serde_json.specs.View.{view}
use Rattle.price_certificate.proofs.Plans.{is_spelled, is_not_spelled}
use Rattle.price_certificate.proofs.document.reading.plan_in.Goals as goal

pub returns-clause-some : goal.returns-clause-some
returns-clause-some c = IfOk-weaker c.read.result _ _ (λ o is. is_spelled (view c.args.value.now) o is) c.read.ensures

pub returns-clause-none : goal.returns-clause-none
returns-clause-none c = IfOk-weaker c.read.result _ _ (λ o is. is_not_spelled (view c.args.value.now) o is) c.read.ensures
