use Rattle.spread_certificate.proofs.DocumentLemmas.{plan_documents_stay}
use Rattle.spread_certificate.proofs.document.plan_documents_stay.Goals as goal

pub returns : goal.returns
returns c = plan_documents_stay
