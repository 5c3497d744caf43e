use Rattle.std.proofs.Common.{[]}
use Rattle.fleet_assignment.proofs.SoundLemmas.{allocation_once}
use Rattle.fleet_assignment.proofs.laws.allocations_are_once.Goals as goal

pub returns : goal.returns
returns c = λ fleet plan. allocation_once (record { fleet = fleet; before = [] }) plan
