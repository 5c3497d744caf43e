-- What every published allocation is: the best of its moment, or the best within caps that cost nothing.
use Rattle.std.specs.Prelude.{◌≡◌, ◌<◌, ◌+◌, ◌⊎◌, ℕ, Bool, true, false, List, [], ◌∷◌, ◌++◌, AllPairs, IfSome, length, slice_index_or}
use Rattle.std.specs.List.{list_any}
use Rattle.price_certificate.specs.Assignment.{IsOptimal, left, moved}
use Rattle.price_certificate.specs.declared.plan.Plan.{Plan}
use Rattle.spread_certificate.specs.Even.{IsEvenWithin}
use Rattle.spread_certificate.specs.EvenFaults.{witness_of}
use Rattle.spread_certificate.specs.Within.{IsBestWithin as IsBestPlanWithin}
use Rattle.spread_certificate.specs.declared.spread.Spread.{Spread as SpreadPlan}
use Rattle.fleet.specs.declared.job.JobSpec.{JobSpec}
use Rattle.fleet_assignment.specs.Best.{IsBest, left_by, moved_by}
use Rattle.fleet_assignment.specs.Within.{CoversMost, IsBestWithin}
use Rattle.fleet_events.specs.declared.answer.Answer.TheVariants.{Published}
use Rattle.fleet_events.specs.declared.event.Event.{Event}
use Rattle.fleet_events.specs.declared.event.Event.TheVariants.{Install, Spread}
use Rattle.allocation_core.specs.State.{State, allocation_at, current_pairs, first_state, instance_at}
use Rattle.allocation_core.specs.Steps.{answer_of, state_after}
use Rattle.allocation_core.specs.Runs.{state_of}

-- An Install among the events published the allocation, in this place. It is the best of the state just before that event, and
-- its plan is optimal for the instance of that state, among all feasible assignments.
pub record WasBest (first : State) (events : List Event) (place : ℕ) (pairs : List (ℕ × ℕ)) : Type 0 where
  pub earlier : List Event
  pub plan : Plan
  pub later : List Event
  pub split : events ≡ earlier ++ Install plan ∷ later
  pub before : length (state_of first earlier).published ≡ place
  pub answered : answer_of (state_of first earlier) (Install plan) ≡ Published (place + 1)
  pub granted : (state_after (state_of first earlier) (Install plan)).published ≡ (state_of first earlier).published ++ pairs ∷ []
  pub best : IsBest (state_of first earlier).fleet (current_pairs (state_of first earlier)) pairs
  pub ascending : AllPairs (λ (a b : ℕ × ℕ). a.0 < b.0) pairs
  pub published : pairs ≡ allocation_at (state_of first earlier) plan.pairs
  pub optimal : IsOptimal (instance_at (state_of first earlier)) plan.pairs
  -- what the certificate's checker counts as left and as moved is what this allocation leaves at draining collectors and moves
  pub leaves : left (instance_at (state_of first earlier)) plan.pairs ≡ left_by (state_of first earlier).fleet pairs
  pub moves : moved (instance_at (state_of first earlier)) plan.pairs ≡ moved_by (state_of first earlier).fleet (current_pairs (state_of first earlier)) pairs

-- A Spread among the events published the allocation, in this place. It is the best within the spread's caps, which cost nothing, of
-- the state just before that event, and so is its plan for the instance of that state. Where the spread tells how even its plan is,
-- it is so even: of all assignments that cover and leave as many none is more even than its witness, and no collector has more than
-- there and the slack.
pub record WasBestWithin (first : State) (events : List Event) (place : ℕ) (pairs : List (ℕ × ℕ)) : Type 0 where
  pub earlier : List Event
  pub spread : SpreadPlan
  pub later : List Event
  pub split : events ≡ earlier ++ Spread spread ∷ later
  pub before : length (state_of first earlier).published ≡ place
  pub answered : answer_of (state_of first earlier) (Spread spread) ≡ Published (place + 1)
  pub granted : (state_after (state_of first earlier) (Spread spread)).published ≡ (state_of first earlier).published ++ pairs ∷ []
  pub best : IsBestWithin (state_of first earlier).fleet spread.caps (current_pairs (state_of first earlier)) pairs
  pub ascending : AllPairs (λ (a b : ℕ × ℕ). a.0 < b.0) pairs
  pub published : pairs ≡ allocation_at (state_of first earlier) spread.plan.pairs
  pub plan_best : IsBestPlanWithin spread.caps (instance_at (state_of first earlier)) spread.plan.pairs
  pub even : IfSome spread.even (λ even. IsEvenWithin (instance_at (state_of first earlier)) even.jobs even.slack (witness_of spread even) spread.plan.pairs)
  -- what the certificate's checker counts as left and as moved is what this allocation leaves at draining collectors and moves
  pub leaves : left (instance_at (state_of first earlier)) spread.plan.pairs ≡ left_by (state_of first earlier).fleet pairs
  pub moves : moved (instance_at (state_of first earlier)) spread.plan.pairs ≡ moved_by (state_of first earlier).fleet (current_pairs (state_of first earlier)) pairs

-- an Install published the allocation, and it was the best of its moment, or a Spread, and it was the best within its caps
abbrev pub WasPublished : State → List Event → ℕ → List (ℕ × ℕ) → Type 0
WasPublished first events place pairs = WasBest first events place pairs ⊎ WasBestWithin first events place pairs

-- each allocation of the state was published by these events, and was the best of its moment, or the best within caps
abbrev pub AllBest : State → List Event → State → Type 0
AllBest first events m = (place : ℕ) → place < length m.published → WasPublished first events place (slice_index_or m.published place [])

-- over every list of jobs and of events
abbrev pub AlwaysBest : Type 0
AlwaysBest = (jobs : List JobSpec) (report_rounds : ℕ) (events : List Event) → AllBest (first_state jobs report_rounds) events (state_of (first_state jobs report_rounds) events)

abbrev pub is_spread : Event → Bool
is_spread (Spread spread) = true
is_spread _ = false

-- over every list of jobs and of events without a Spread, each published allocation is the best of its moment
abbrev pub InstalledAreBest : Type 0
InstalledAreBest =
    (jobs : List JobSpec) (report_rounds : ℕ) (events : List Event) → list_any is_spread events ≡ false
    → (place : ℕ) → place < length (state_of (first_state jobs report_rounds) events).published → WasBest (first_state jobs report_rounds) events place (slice_index_or (state_of (first_state jobs report_rounds) events).published place [])

-- One of the events published the allocation, in this place. It is sound; no sound allocation of the state just before that event covers
-- more targets, and none that covers as many leaves fewer at draining collectors.
pub record WasMost (first : State) (events : List Event) (place : ℕ) (pairs : List (ℕ × ℕ)) : Type 0 where
  pub earlier : List Event
  pub event : Event
  pub later : List Event
  pub split : events ≡ earlier ++ event ∷ later
  pub before : length (state_of first earlier).published ≡ place
  pub answered : answer_of (state_of first earlier) event ≡ Published (place + 1)
  pub granted : (state_after (state_of first earlier) event).published ≡ (state_of first earlier).published ++ pairs ∷ []
  pub most : CoversMost (state_of first earlier).fleet pairs

-- what was published, by an Install or by a Spread, covers the most
abbrev pub PublishedCoverMost : Type 0
PublishedCoverMost = (first : State) (events : List Event) (place : ℕ) (pairs : List (ℕ × ℕ)) → WasPublished first events place pairs → WasMost first events place pairs

-- over every list of jobs and of events, each published allocation covers the most targets of its moment, and leaves the fewest
abbrev pub AlwaysMost : Type 0
AlwaysMost =
    (jobs : List JobSpec) (report_rounds : ℕ) (events : List Event) (place : ℕ) → place < length (state_of (first_state jobs report_rounds) events).published
    → WasMost (first_state jobs report_rounds) events place (slice_index_or (state_of (first_state jobs report_rounds) events).published place [])
