use Rattle.std.proofs.Common.{◌≡◌, drop}
use Rattle.agent_core.specs.Sharing.{has_parameter}
use Rattle.agent_core.proofs.url.has_parameter.Given as goal

abbrev pub invariant-loop-parameter : goal.invariant-loop-parameter
invariant-loop-parameter l = has_parameter (drop l.parameter-index l.scraped) l.wanted ≡ has_parameter l.scraped l.wanted
