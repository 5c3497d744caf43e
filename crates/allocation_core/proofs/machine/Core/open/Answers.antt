use Rattle.std.proofs.Common.{refl, ap}
use Rattle.std.proofs.Common.{subst, sym}
use Rattle.handover.specs.Handover.{Handover}
use Rattle.served_lists.specs.Served.{Served as Lists}
use Rattle.fleet.specs.Fleet.{first_fleet}
use Rattle.fleet.specs.IsFleet.{IsFleet}
use Rattle.fleet.proofs.KeptLemmas.{first_kept as fleet_first_kept}
use Rattle.allocation_core.proofs.StepLemmas.{first_kept}
use Rattle.allocation_core.proofs.machine.Core.open.Goals as goal

pub invariant_of-result : goal.invariant_of-result
invariant_of-result c =
    first_kept _ (subst IsFleet (sym c.in_ok-fleet.ensures.first) (fleet_first_kept (first_fleet c.args.jobs.items) refl refl refl refl)) (ap (λ (h : Handover). h.published) c.open-2.ensures) (ap (λ (s : Lists). s.slots) c.open-3.ensures) refl c.open-4.ensures refl
