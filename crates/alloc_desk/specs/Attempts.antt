-- What the answer to an Install says of an attempt to reallocate.
use Rattle.price_certificate.specs.Problem.{Problem}
use Rattle.price_certificate.specs.declared.plan.Plan.{Plan}
use Rattle.fleet_events.specs.declared.answer.Answer.{Answer}
use Rattle.fleet_events.specs.declared.answer.Answer.TheVariants.{Published as IsPublished, Not}
use Rattle.fleet_events.specs.declared.refusal.Refusal.TheVariants.{Refused, Unchanged as IsUnchanged}
use Rattle.alloc_desk.specs.declared.attempt.Attempt.{Attempt}
use Rattle.alloc_desk.specs.declared.attempt.Attempt.TheVariants.{Published, Unchanged, NumbersSpent, Lost as IsLost}

abbrev pub attempted_by : Answer → Problem → Plan → Attempt
attempted_by (IsPublished number) instance plan = Published number
attempted_by (Not (IsUnchanged number)) instance plan = Unchanged number
attempted_by (Not (Refused fault)) instance plan = IsLost (record { fault = fault; instance = instance; plan = plan })
attempted_by _ instance plan = NumbersSpent
