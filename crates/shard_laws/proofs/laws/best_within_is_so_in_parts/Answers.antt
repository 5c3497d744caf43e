use Rattle.shard_laws.proofs.PartLaws.{best_within_is_so_in_parts}
use Rattle.shard_laws.proofs.laws.best_within_is_so_in_parts.Goals as goal

pub returns : goal.returns
returns c = best_within_is_so_in_parts
