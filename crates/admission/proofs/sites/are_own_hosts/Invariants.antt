use Rattle.std.proofs.Common.{◌≡◌}
use Rattle.std.specs.List.{list_all}
use Rattle.http_header.specs.FieldValue.{FieldValue}
use Rattle.http_header.specs.HeaderMap.{get_all}
use Rattle.std.specs.Prelude.{codes}
use Rattle.admission.specs.Sites.{is_own_host}
use Rattle.admission.proofs.sites.are_own_hosts.Given as goal

abbrev pub invariant-loop-value : goal.invariant-loop-value
invariant-loop-value l = list_all (λ (value : FieldValue). is_own_host l.hosts value.bytes) l.value-iterator ≡ list_all (λ (value : FieldValue). is_own_host l.hosts value.bytes) (get_all l.fields (codes "host"))
