use Rattle.std.proofs.Common.{subst, sym}
use Rattle.allocation_core.specs.State.{State}
use Rattle.service_tasks.specs.Later.{IsLater}
use Rattle.daemon.proofs.Laters.{legal_is_later}
use Rattle.daemon.proofs.one_desk.ended.Goals as goal

pub returns-in-Ok-closed-clause-later : goal.returns-in-Ok-closed-clause-later
returns-in-Ok-closed-clause-later g c =
    subst (λ (m : State). IsLater g.N.DeskName.opening m) (sym c.into_parts-core.ensures)
    (legal_is_later g.N.DeskName.opening c.in-Ok-closed.closed.state c.in-Ok-closed.closed.journal c.in-Ok-closed.ensures)
