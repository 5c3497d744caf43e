use Rattle.file_configs.proofs.Prefixing.{stripped}
use Rattle.file_configs.proofs.patterns.behind.Goals as goal

pub returns : goal.returns
returns c = stripped _ _ _ c.strip_prefix.ensures.cases
