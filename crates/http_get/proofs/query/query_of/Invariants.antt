use Rattle.std.proofs.Common.{◌≡◌, [], drop}
use Rattle.std.specs.List.{flat_map}
use Rattle.form_urlencoded.specs.Form.{extend_pairs}
use Rattle.http_get.specs.Queries.{named, values_of, query_of}
use Rattle.http_get.proofs.query.query_of.Given as goal

abbrev pub invariant-loop-name : goal.invariant-loop-name
invariant-loop-name l = record {
  prefix : l.query.prefix ≡ [];
  rest : extend_pairs l.query.form (flat_map (λ name. named name (values_of l.params l.labels name)) (drop l.name-index l.name-items)) ≡ query_of l.params l.labels;
}
