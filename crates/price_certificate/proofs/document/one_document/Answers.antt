use Rattle.price_certificate.proofs.DocumentLaws.{one_document}
use Rattle.price_certificate.proofs.document.one_document.Goals as goal

pub returns : goal.returns
returns c = one_document
