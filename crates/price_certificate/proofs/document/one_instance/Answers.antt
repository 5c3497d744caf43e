use Rattle.price_certificate.proofs.DocumentLaws.{one_instance}
use Rattle.price_certificate.proofs.document.one_instance.Goals as goal

pub returns : goal.returns
returns c = one_instance
