use Rattle.std.proofs.Common.{◌≡◌}
use Rattle.std.specs.Prelude.{codes}
use Rattle.std.specs.List.{list_all}
use Rattle.http_header.specs.FieldValue.{FieldValue}
use Rattle.http_header.specs.HeaderMap.{get_all}
use Rattle.admission.specs.Sites.{is_own_origin}
use Rattle.admission.proofs.sites.has_own_origin.Given as goal

abbrev pub invariant-loop-origin : goal.invariant-loop-origin
invariant-loop-origin l = list_all (λ (origin : FieldValue). is_own_origin l.fields origin.bytes) l.origin-iterator ≡ list_all (λ (origin : FieldValue). is_own_origin l.fields origin.bytes) (get_all l.fields (codes "origin"))
