-- The lists that were served last, as answers gave them, and what holds of them over every list of events.
use Rattle.std.specs.Prelude.{◌≡◌, ◌<◌, ◌==◌, ◌&&◌, ℕ, true, false, List, [], ◌∷◌, filter, Option, Some, None}
use Rattle.fleet.specs.Live.{is_in}
use Rattle.fleet.specs.Orderly.{is_of}
use Rattle.fleet.specs.declared.job.JobSpec.{JobSpec}
use Rattle.fleet_events.specs.declared.event.Event.{Event}
use Rattle.fleet_events.specs.declared.event.Event.TheVariants.{Serve, Release}
use Rattle.fleet_events.specs.declared.answer.Answer.{Answer}
use Rattle.fleet_events.specs.declared.answer.Answer.TheVariants.{Served, Released}
use Rattle.allocation_core.specs.State.{State, first_state, held_live}
use Rattle.served_lists.specs.Told.{IsInAnother, lists_with, lists_without, no_lists}
use Rattle.allocation_core.specs.Steps.{answer_of, place_named, place_of, state_after}
use Rattle.allocation_core.specs.Runs.{state_of}

-- the lists where a collector is served one, of the job at a place where there is one
abbrev pub lists_at : (ℕ → ℕ → List ℕ) → ℕ → Option ℕ → List ℕ → ℕ → ℕ → List ℕ
lists_at lists id None listed = lists
lists_at lists id (Some job) listed = lists_with lists id job listed

-- the lists by collector and job after an event and its answer: a Serve gives one, and a Release takes some away
abbrev pub lists_by : State → (ℕ → ℕ → List ℕ) → Event → Answer → ℕ → ℕ → List ℕ
lists_by m lists (Serve id name) (Served allocation round listed left_out) = lists_at lists id (place_of m name) listed
lists_by m lists (Release id name) (Released count) = lists_without lists id (place_named m name)
lists_by m lists event answer = lists

abbrev pub lists_from : State → (ℕ → ℕ → List ℕ) → List Event → ℕ → ℕ → List ℕ
lists_from m lists [] = lists
lists_from m lists (event ∷ events) = lists_from (state_after m event) (lists_by m lists event (answer_of m event)) events

-- the list of each collector and job that was served last and not released since, after events from the start
abbrev pub last_lists : List JobSpec → ℕ → List Event → ℕ → ℕ → List ℕ
last_lists jobs report_rounds events = lists_from (first_state jobs report_rounds) no_lists events

-- Over every list of jobs and of events, whatever is published and whoever joins, drains, leaves or is released: no target stands in
-- two of these lists.
abbrev pub AlwaysDisjoint : Type 0
AlwaysDisjoint =
    (jobs : List JobSpec) (report_rounds : ℕ) (events : List Event) (one other one_job other_job target : ℕ) → 0 < one → 0 < other → ((one == other) && (one_job == other_job)) ≡ false
    → is_in (last_lists jobs report_rounds events one one_job) target ≡ true → is_in (last_lists jobs report_rounds events other other_job) target ≡ false

-- A list that is served has what its collector holds of the job; only what another collector's list has is left out.
pub record IsWhole (m : State) (lists : ℕ → ℕ → List ℕ) (id job : ℕ) (listed left_out : List ℕ) : Type 0 where
  pub held : (target : ℕ) → is_in listed target ≡ true → is_in (filter (is_of m.fleet.known job) (held_live m id)) target ≡ true
  pub whole : (target : ℕ) → is_in (filter (is_of m.fleet.known job) (held_live m id)) target ≡ true → is_in listed target ≡ false → IsInAnother lists id job target
  pub told : (target : ℕ) → is_in left_out target ≡ true → IsInAnother lists id job target

-- Over every list of jobs and of events: each list that is served is whole.
abbrev pub AlwaysWhole : Type 0
AlwaysWhole =
    (jobs : List JobSpec) (report_rounds : ℕ) (events : List Event) (id job allocation round : ℕ) (name listed left_out : List ℕ) → place_of (state_of (first_state jobs report_rounds) events) name ≡ Some job
    → answer_of (state_of (first_state jobs report_rounds) events) (Serve id name) ≡ Served allocation round listed left_out → IsWhole (state_of (first_state jobs report_rounds) events) (last_lists jobs report_rounds events) id job listed left_out
