use Rattle.std.proofs.Common.{◌≡◌, not}
use Rattle.std.specs.Prelude.{codes}
use Rattle.std.specs.List.{list_any}
use Rattle.http_header.specs.FieldValue.{FieldValue}
use Rattle.http_header.specs.HeaderMap.{get_all}
use Rattle.admission.specs.Sites.{same_letters}
use Rattle.admission.proofs.bodies.expects_other.Given as goal

abbrev pub invariant-loop-expected : goal.invariant-loop-expected
invariant-loop-expected l = list_any (λ (expected : FieldValue). not (same_letters expected.bytes (codes "100-continue"))) l.expected-iterator ≡ list_any (λ (expected : FieldValue). not (same_letters expected.bytes (codes "100-continue"))) (get_all l.fields (codes "expect"))
