use Rattle.exposition.proofs.EscapingLemmas.{read-back}
use Rattle.exposition.proofs.laws.values_are_read_back.Goals as goal

pub returns : goal.returns
returns c = read-back
