use Rattle.http_get.proofs.Prefixing.{stripped}
use Rattle.http_get.proofs.prefix.behind.Goals as goal

pub returns : goal.returns
returns c = stripped _ _ _ c.strip_prefix.ensures.cases
