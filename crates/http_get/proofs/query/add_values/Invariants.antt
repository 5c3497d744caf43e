use Rattle.std.proofs.Common.{◌≡◌, drop}
use Rattle.form_urlencoded.specs.Form.{extend_pairs}
use Rattle.http_get.specs.Queries.{named}
use Rattle.http_get.proofs.query.add_values.Given as goal

abbrev pub invariant-loop-value : goal.invariant-loop-value
invariant-loop-value l = record {
  prefix : l.query.prefix ≡ l.fn.query.prefix;
  rest : extend_pairs l.query.form (named l.name (drop l.value-index l.values)) ≡ extend_pairs l.fn.query.form (named l.name l.values);
}
