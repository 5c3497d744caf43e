use Rattle.serde_json.specs.View.{view}
use Rattle.price_certificate.proofs.DocumentValues.{no_document, no_instance, is_instance}
use Rattle.price_certificate.proofs.document.read_document.Goals as goal

pub returns-in_default-clause-shape : goal.returns-in_default-clause-shape
returns-in_default-clause-shape c e p pairs items bins =
    let none = rw c.in_default.is at c.in_ok-plan.ensures.none in
    no_document c.args.bytes.now (view c.in_ok-value.value) p pairs items bins c.in_ok-value.ensures.ok (none pairs items bins)

pub returns-in_default-2-clause-shape : goal.returns-in_default-2-clause-shape
returns-in_default-2-clause-shape c e p pairs items bins document =
    let none = rw c.in_default-2.is at c.in_ok-instance.ensures.none in
    no_instance c.args.bytes.now (view c.in_ok-value.value) p c.in_ok-value.ensures.ok (none p) (is_instance c.args.bytes.now p pairs items bins document)
