use Rattle.std.proofs.Common.{◌≡◌, Some, ap, ap₂, subst, ◌∙◌}
use Rattle.std.proofs.lemmas.Result.{IfOk-weaker}
use Rattle.serde_json.specs.Data.{Data}
use Rattle.price_certificate.specs.Instances.{problem_in}
use Rattle.price_certificate.specs.Plan.{plan_in}
use Rattle.spread_certificate.specs.Document.{certificate_in, spread_in, with_spread}
use Rattle.spread_certificate.proofs.DocumentLemmas.{instance_back, certificate_back}
use Rattle.spread_certificate.proofs.document.writing.value_of.Goals as goal

pub returns-clause-instance : goal.returns-clause-instance
returns-clause-instance c =
    let p = c.args.instance.now in
    let spread = c.args.spread.now in
    let form = ap₂ (λ (x d : Data). with_spread x d) c.in_ok-value.ensures.form c.in_ok-document.ensures.form in
    let back = instance_back p spread (subst (λ (d : Data). problem_in d ≡ Some p) c.in_ok-document.ensures.form c.in_ok-document.ensures.instance) in
    IfOk-weaker c.add_spread.result _ _ (λ v is. ap problem_in (is ∙ form) ∙ back) c.add_spread.ensures

pub returns-clause-certificate : goal.returns-clause-certificate
returns-clause-certificate c =
    let p = c.args.instance.now in
    let spread = c.args.spread.now in
    let form = ap₂ (λ (x d : Data). with_spread x d) c.in_ok-value.ensures.form c.in_ok-document.ensures.form in
    let said = subst (λ (d : Data). spread_in spread.plan d ≡ Some spread) c.in_ok-value.ensures.form c.in_ok-value.ensures.reads_back in
    let back = certificate_back p spread (subst (λ (d : Data). plan_in d ≡ Some spread.plan) c.in_ok-document.ensures.form c.in_ok-document.ensures.plan) said in
    IfOk-weaker c.add_spread.result _ _ (λ v is. ap certificate_in (is ∙ form) ∙ back) c.add_spread.ensures
