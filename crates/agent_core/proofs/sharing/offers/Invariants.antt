use Rattle.std.proofs.Common.{◌≡◌, ◌++◌}
use Rattle.agent_core.specs.Sharing.{offers}
use Rattle.agent_core.proofs.sharing.offers.Given as goal

-- the offers so far and those of the series that are left are all
abbrev pub invariant-loop-series : goal.invariant-loop-series
invariant-loop-series l = l.all.items ++ offers l.said.entries l.targets l.series-iterator ≡ offers l.said.entries l.targets l.lasts.entries
