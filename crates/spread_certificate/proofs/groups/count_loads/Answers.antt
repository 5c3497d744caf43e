use Rattle.std.proofs.Common.{◌∙◌, arith}
use Rattle.std.proofs.lemmas.Result.{IfOk-weaker}
use Rattle.spread_certificate.proofs.Counting.{loads_counted}
use Rattle.spread_certificate.proofs.groups.count_loads.Goals as goal

pub returns : goal.returns
returns c = IfOk-weaker c.count_bins.result _ _ (λ v h. loads_counted c.args.instance.now c.args.jobs _ c.args.pairs.now c.as_slice.result.now v.items (omega arith) (c.as_slice.ensures.value ∙ c.in_ok-grouped.ensures) h) c.count_bins.ensures
