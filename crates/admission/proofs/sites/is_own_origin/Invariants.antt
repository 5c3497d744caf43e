use Rattle.std.proofs.Common.{◌≡◌}
use Rattle.std.specs.Prelude.{codes}
use Rattle.std.specs.List.{list_any}
use Rattle.http_header.specs.FieldValue.{FieldValue}
use Rattle.http_header.specs.HeaderMap.{get_all}
use Rattle.admission.specs.Sites.{is_origin_of}
use Rattle.admission.proofs.sites.is_own_origin.Given as goal

abbrev pub invariant-loop-host : goal.invariant-loop-host
invariant-loop-host l = list_any (λ (host : FieldValue). is_origin_of host.bytes l.origin) l.host-iterator ≡ list_any (λ (host : FieldValue). is_origin_of host.bytes l.origin) (get_all l.fields (codes "host"))
