use Rattle.std.proofs.Common.{◌≡◌, map}
use Rattle.fleet.specs.Live.{chosen_below, mark_at}
use Rattle.served_lists.specs.Served.{slot_of}
use Rattle.fleet_renewal.proofs.slots.marked_slots.Given as goal

abbrev pub invariant-loop-target : goal.invariant-loop-target
invariant-loop-target l = l.kept.items ≡ map (slot_of l.slots) (chosen_below (mark_at l.marks) l.target)
