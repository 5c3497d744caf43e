-- What a service comes to: a state of the machine after the one that it began with.
use Rattle.std.specs.Prelude.{◌≡◌, ◌<◌, ℕ, List, [], ◌∷◌, AllPairs}
use Rattle.allocation_core.specs.Renewed.{renewed}
use Rattle.allocation_core.specs.State.{State, current_pairs}
use Rattle.allocation_core.specs.Runs.{state_of}
use Rattle.fleet.specs.declared.job.JobSpec.{JobSpec}
use Rattle.fleet_events.specs.declared.event.Event.{Event}
use Rattle.renewal.specs.Histories.{Stretch, AreGranted, stretch_end}

-- the state behind stretches that follow a state
abbrev pub end_of : State → List Stretch → State
end_of m [] = m
end_of m (stretch ∷ stretches) = end_of (stretch_end m stretch) stretches

-- some events, and then stretches of which no renewal is refused, lead from the first state to the second
pub record IsLater (before after : State) : Type 0 where
  pub events : List Event
  pub stretches : List Stretch
  pub granted : AreGranted (state_of before events) stretches
  pub state : after ≡ end_of (state_of before events) stretches

-- a state as the renewal of a core leaves it, whose current pairs ascend
pub record IsRenewed (m : State) : Type 0 where
  pub before : State
  pub jobs : List JobSpec
  pub ascending : AllPairs (λ (a b : ℕ × ℕ). a.0 < b.0) (current_pairs before)
  pub is : m ≡ renewed before jobs m.report_rounds
