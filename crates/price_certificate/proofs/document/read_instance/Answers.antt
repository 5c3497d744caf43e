use Rattle.serde_json.specs.View.{view}
use Rattle.price_certificate.proofs.DocumentValues.{no_instance}
use Rattle.price_certificate.proofs.document.read_instance.Goals as goal

pub returns-in_default-clause-shape : goal.returns-in_default-clause-shape
returns-in_default-clause-shape c e p =
    let none = rw c.in_default.is at c.in_ok-instance.ensures.none in
    no_instance c.args.bytes.now (view c.in_ok-value.value) p c.in_ok-value.ensures.ok (none p)
