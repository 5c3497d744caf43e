use Rattle.std.proofs.Common.{◌≡◌}
use Rattle.std.specs.List.{filter_map}
use Rattle.fleet.specs.Live.{chosen_below, mark_at}
use Rattle.fleet_renewal.specs.Renewed.{moved_at}
use Rattle.fleet_renewal.proofs.known.renewed_known.Given as goal

abbrev pub invariant-loop-number : goal.invariant-loop-number
invariant-loop-number l = l.renewed.items ≡ filter_map (moved_at l.known l.places) (chosen_below (mark_at l.marks) l.number)
