use Rattle.std.proofs.Common.{take}
use Rattle.fleet_assignment.specs.Sharing.{IsSharing}
use Rattle.fleet_assignment.proofs.rows.share_all.Given as goal

abbrev pub invariant-loop-number : goal.invariant-loop-number
invariant-loop-number l = IsSharing l.fleet (take l.number-index l.live) l.sharing.lists.items l.sharing.firsts.items l.sharing.list_of.items
