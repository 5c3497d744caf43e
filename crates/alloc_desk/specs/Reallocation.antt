-- A reallocation is an Install of a plan that is certified for the instance of the moment.
use Rattle.std.specs.Prelude.{◌≡◌}
use Rattle.price_certificate.specs.declared.plan.Plan.{Plan}
use Rattle.allocation_core.specs.State.{State}
use Rattle.allocation_core.specs.Steps.{answer_of, state_after}
use Rattle.allocation_core.specs.Installed.{IsCertifiedNow}
use Rattle.fleet_events.specs.declared.answer.Answer.{Answer}
use Rattle.fleet_events.specs.declared.event.Event.TheVariants.{Install}

pub record IsReallocation (old new : State) (answer : Answer) : Type 0 where
  pub plan : Plan
  pub certified : IsCertifiedNow old plan
  pub answered : answer ≡ answer_of old (Install plan)
  pub state : new ≡ state_after old (Install plan)
