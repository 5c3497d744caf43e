use Rattle.spread_certificate.proofs.DocumentLemmas.{one_certificate}
use Rattle.spread_certificate.proofs.document.one_certificate.Goals as goal

pub returns : goal.returns
returns c = one_certificate
