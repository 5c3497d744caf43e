use Rattle.std.proofs.Common.{◌≡◌, drop}
use Rattle.sd_documents.specs.FirstLabels.{with_params}
use Rattle.sd_documents.proofs.labelling.set_params.Given as goal

abbrev pub invariant-loop-param : goal.invariant-loop-param
invariant-loop-param l = with_params l.labels (drop l.param-index l.params) ≡ with_params l.fn.labels l.params
