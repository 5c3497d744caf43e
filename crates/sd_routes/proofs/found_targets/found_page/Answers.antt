use Rattle.std.proofs.Common.{ap, ◌∙◌}
use Rattle.std.proofs.lemmas.Result.{IfOk-weaker}
use Rattle.serde_json.specs.Written.{compact_text, has_float}
use Rattle.sd_routes.proofs.FoundFloats.{found_no_float}
use Rattle.sd_routes.proofs.found_targets.found_page.Goals as goal

pub returns : goal.returns
returns c =
    let is = c.in_ok-page.ensures in
    IfOk-weaker c.text_of.result _ _ (λ t h. h (ap has_float is ∙ found_no_float c.args.all c.args.found.now) ∙ ap compact_text is) c.text_of.ensures.form
