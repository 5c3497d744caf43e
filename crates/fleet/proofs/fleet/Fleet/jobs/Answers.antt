use Rattle.std.proofs.Common.{◌≡◌, None, subst}
use Rattle.fleet.specs.Fleet.{FleetState}
use Rattle.fleet.specs.Parts.{parts_fault}
use Rattle.fleet.proofs.FaultLemmas.{no_fault}
use Rattle.fleet.proofs.fleet.Fleet.jobs.Goals as goal

pub returns-clause-good : goal.returns-clause-good
returns-clause-good c = subst (λ (f : FleetState). parts_fault f ≡ None) c.self.view_is (no_fault _ c.self.invariant.0 c.self.invariant.2)
