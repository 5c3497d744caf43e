use Rattle.std.proofs.Common.{◌≡◌, ◌++◌, drop}
use Rattle.agent_core.specs.Sharing.{offers_of}
use Rattle.agent_core.proofs.sharing.add_offers.Given as goal

-- the offers so far and those of the points that are left are all
abbrev pub invariant-loop-point : goal.invariant-loop-point
invariant-loop-point l =
    l.all.items ++ offers_of l.series l.targets l.lasts l.points (drop l.point-index l.points) ≡ l.fn.all.items ++ offers_of l.series l.targets l.lasts l.points l.points
