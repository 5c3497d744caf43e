use Rattle.std.proofs.Common.{◌≡◌, not}
use Rattle.std.specs.Prelude.{codes}
use Rattle.std.specs.List.{list_any}
use Rattle.http_header.specs.FieldValue.{FieldValue}
use Rattle.http_header.specs.HeaderMap.{get_all}
use Rattle.admission.specs.Sites.{same_letters}
use Rattle.admission.proofs.bodies.is_coded_otherwise.Given as goal

abbrev pub invariant-loop-coding : goal.invariant-loop-coding
invariant-loop-coding l = list_any (λ (coding : FieldValue). not (same_letters coding.bytes (codes "chunked"))) l.coding-iterator ≡ list_any (λ (coding : FieldValue). not (same_letters coding.bytes (codes "chunked"))) (get_all l.fields (codes "transfer-encoding"))
