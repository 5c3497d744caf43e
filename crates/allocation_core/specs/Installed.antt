-- What an Install of a certified plan is answered, and a Spread that is certified.
use Rattle.std.specs.Prelude.{◌≡◌, ◌⊎◌, ◌+◌, ℕ, List, None}
use Rattle.price_certificate.specs.Certificate.{IsCertified}
use Rattle.price_certificate.specs.Derived.{bare, capped}
use Rattle.price_certificate.specs.declared.plan.Plan.{Plan}
use Rattle.spread_certificate.specs.Judged.{told_fault}
use Rattle.spread_certificate.specs.Within.{AreCaps}
use Rattle.spread_certificate.specs.declared.spread.Spread.{Spread as SpreadPlan}
use Rattle.allocation_core.specs.State.{State, current_of, first_state, instance_at}
use Rattle.allocation_core.specs.Steps.{answer_of}
use Rattle.allocation_core.specs.Runs.{state_of}
use Rattle.fleet.specs.declared.job.JobSpec.{JobSpec}
use Rattle.fleet_events.specs.declared.event.Event.{Event}
use Rattle.fleet_events.specs.declared.event.Event.TheVariants.{Install, Spread}
use Rattle.fleet_events.specs.declared.answer.Answer.{Answer}
use Rattle.fleet_events.specs.declared.answer.Answer.TheVariants.{Published, Not}
use Rattle.fleet_events.specs.declared.refusal.Refusal.TheVariants.{Unchanged, NumbersSpent}

-- the plan is published, or its pairs are those of the current allocation, or the last number is given
abbrev pub IsInstalled : State → Answer → Type 0
IsInstalled m answer = (answer ≡ Published (current_of m + 1)) ⊎ ((answer ≡ Not (Unchanged (current_of m))) ⊎ (answer ≡ Not NumbersSpent))

-- the prices certify the plan for the instance of the moment
abbrev pub IsCertifiedNow : State → Plan → Type 0
IsCertifiedNow m plan = IsCertified (instance_at m) plan.pairs plan.item_prices plan.bin_prices

-- The prices certify the plan within the caps, and the free prices the same pairs where nothing was before, for the instance of the
-- moment; and what is told of how even the plan is has no fault.
pub record IsCertifiedWithin (m : State) (spread : SpreadPlan) : Type 0 where
  pub caps : AreCaps (instance_at m) spread.caps
  pub free : IsCertified (bare (instance_at m)) spread.plan.pairs spread.free_item_prices spread.free_bin_prices
  pub within : IsCertified (capped spread.caps (instance_at m)) spread.plan.pairs spread.plan.item_prices spread.plan.bin_prices
  pub even : told_fault (instance_at m) spread spread.even ≡ None

-- over every list of jobs and of events
abbrev pub CertifiedAreInstalled : Type 0
CertifiedAreInstalled = (jobs : List JobSpec) (report_rounds : ℕ) (events : List Event) (plan : Plan) → IsCertifiedNow (state_of (first_state jobs report_rounds) events) plan → IsInstalled (state_of (first_state jobs report_rounds) events) (answer_of (state_of (first_state jobs report_rounds) events) (Install plan))

-- the same of spreads
abbrev pub SpreadsAreInstalled : Type 0
SpreadsAreInstalled = (jobs : List JobSpec) (report_rounds : ℕ) (events : List Event) (spread : SpreadPlan) → IsCertifiedWithin (state_of (first_state jobs report_rounds) events) spread → IsInstalled (state_of (first_state jobs report_rounds) events) (answer_of (state_of (first_state jobs report_rounds) events) (Spread spread))

-- an Install of a certified plan is installed, and a Spread that is certified; of other events and plans nothing is said
abbrev pub IsAnswerToCertified : State → Event → Answer → Type 0
IsAnswerToCertified m (Install plan) answer = IsCertifiedNow m plan → IsInstalled m answer
IsAnswerToCertified m (Spread spread) answer = IsCertifiedWithin m spread → IsInstalled m answer
IsAnswerToCertified m _ answer = Unit {0}
