use Rattle.agent_documents.proofs.SeriesLemmas.{series_decides}
use Rattle.agent_documents.proofs.laws.series_decides.Goals as goal

pub returns : goal.returns
returns c = series_decides
