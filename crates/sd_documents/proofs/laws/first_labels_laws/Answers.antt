use Rattle.sd_documents.proofs.FirstLabelsLaws.{first_labels_are_first}
use Rattle.sd_documents.proofs.laws.first_labels_laws.Goals as goal

pub returns : goal.returns
returns c = first_labels_are_first c.map_laws.ensures.set
