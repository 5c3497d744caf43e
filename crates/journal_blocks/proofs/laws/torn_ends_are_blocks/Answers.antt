use Rattle.journal_blocks.proofs.BlockLemmas.{torn_ends_are_blocks}
use Rattle.journal_blocks.proofs.laws.torn_ends_are_blocks.Goals as goal

pub returns : goal.returns
returns c = torn_ends_are_blocks
