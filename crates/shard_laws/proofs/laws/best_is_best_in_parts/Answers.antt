use Rattle.shard_laws.proofs.PartLaws.{best_is_best_in_parts}
use Rattle.shard_laws.proofs.laws.best_is_best_in_parts.Goals as goal

pub returns : goal.returns
returns c = best_is_best_in_parts
