-- What is promised of events from a state, and that it holds from whatever state a first line opens.
use Rattle.std.specs.Prelude.{◌≡◌, ◌<◌, ◌≤◌, ◌==◌, ◌&&◌, ℕ, true, false, List, [], Some, length, slice_index_or}
use Rattle.scrape_books.specs.Kept.{BookedOnce}
use Rattle.fleet.specs.Live.{chosen_below, is_in}
use Rattle.fleet.specs.Orderly.{is_of}
use Rattle.fleet_events.specs.declared.event.Event.{Event}
use Rattle.fleet_events.specs.declared.event.Event.TheVariants.{Serve}
use Rattle.fleet_events.specs.declared.answer.Answer.TheVariants.{Served}
use Rattle.served_lists.specs.Served.{slot_of}
use Rattle.allocation_core.specs.Best.{WasMost}
use Rattle.allocation_core.specs.Lists.{IsWhole, lists_from}
use Rattle.allocation_core.specs.Runs.{state_of}
use Rattle.allocation_core.specs.State.{State}
use Rattle.allocation_core.specs.Steps.{answer_of, place_of}
use Rattle.renewal.specs.Histories.{IsGood}
use Rattle.replay_lines.specs.Configurations.{opened}

-- the list of each collector and job that a state tells of: the targets of the job whose slots name the collector
abbrev pub lists_told : State → ℕ → ℕ → List ℕ
lists_told m collector job = chosen_below (λ (target : ℕ). (slot_of m.served.slots target == collector) && is_of m.fleet.known job target) (length m.fleet.known)

-- the lists that were served last and not released since, after events from a state: those that it tells of, and what the events gave
-- and took away
abbrev pub lists_after : State → List Event → ℕ → ℕ → List ℕ
lists_after start events = lists_from start (lists_told start) events

-- no target stands in two lists
abbrev pub AreDisjoint : (ℕ → ℕ → List ℕ) → Type 0
AreDisjoint lists =
    (one other one_job other_job target : ℕ) → 0 < one → 0 < other → ((one == other) && (one_job == other_job)) ≡ false → is_in (lists one one_job) target ≡ true → is_in (lists other other_job) target ≡ false

-- a list that is served has what its collector holds of the job, but for what another collector's list has
abbrev pub ServesWhole : State → (ℕ → ℕ → List ℕ) → Type 0
ServesWhole m lists =
    (id job allocation round : ℕ) (name listed left_out : List ℕ) → place_of m name ≡ Some job → answer_of m (Serve id name) ≡ Served allocation round listed left_out → IsWhole m lists id job listed left_out

-- What is promised of events from a state. Allocations that were there before are not of them.
pub record IsPromised (start : State) (events : List Event) : Type 0 where
  -- each published allocation was the best of its moment, or the best within caps that cost nothing, and each report was booked from the
  -- target's holder, at most once for each target and round
  pub good : IsGood start events
  -- each published allocation covered the most targets of its moment, and left the fewest at draining collectors
  pub most : (place : ℕ) → length start.published ≤ place → place < length (state_of start events).published → WasMost start events place (slice_index_or (state_of start events).published place [])
  -- the rounds of a target, by its number, differ
  pub rounds : BookedOnce (state_of start events).booked
  pub disjoint : AreDisjoint (lists_after start events)
  pub whole : ServesWhole (state_of start events) (lists_after start events)

-- over every first line and every list of events
abbrev pub OpenedAreGood : Type 0
OpenedAreGood = (line : List ℕ) (start : State) (events : List Event) → opened line ≡ Some start → IsPromised start events
