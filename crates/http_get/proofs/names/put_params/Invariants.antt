use Rattle.std.proofs.Common.{◌≡◌, drop, map}
use Rattle.sd_documents.specs.declared.config.Param.{Param}
use Rattle.http_get.specs.Queries.{with_names}
use Rattle.http_get.proofs.names.put_params.Given as goal

abbrev pub invariant-loop-param : goal.invariant-loop-param
invariant-loop-param l = with_names l.names.items (map (λ (p : Param). p.name) (drop l.param-index l.params)) ≡ with_names l.fn.names.items (map (λ (p : Param). p.name) l.params)
