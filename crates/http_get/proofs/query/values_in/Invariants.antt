use Rattle.std.proofs.Common.{◌≡◌, drop}
use Rattle.http_get.specs.Queries.{job_values}
use Rattle.http_get.proofs.query.values_in.Given as goal

abbrev pub invariant-loop-param : goal.invariant-loop-param
invariant-loop-param l = job_values (drop l.param-index l.params) l.name ≡ job_values l.params l.name
