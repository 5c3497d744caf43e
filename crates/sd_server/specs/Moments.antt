-- A list that is told is of one moment of the journal.
use Rattle.std.specs.Prelude.{◌≡◌, ℕ, List, Option, None}
use mathlib.Core.List.{IsPrefix}
use Rattle.fleet_events.specs.declared.event.Event.TheVariants.{Take, Serve}
use Rattle.journal_entries.specs.declared.entry.Entry.{Entry as Line}
use Rattle.allocation_core.specs.State.{current_of, held_by, list_at}
use Rattle.allocation_core.specs.Steps.{place_of}
use Rattle.alloc_desk.specs.History.{History, history_of}
use Rattle.sd_routes.specs.declared.list_head.ListHead.{ListHead}
use Rattle.sd_routes.specs.declared.responding.Said.TheVariants.{List as ListOf}
use Rattle.sd_server.specs.Keeping.{kept_of}
use Rattle.sd_server.specs.Listing.{AreKnown}
use Rattle.sd_server.specs.Says.{SaysGiven, SaysKept}
use Rattle.sd_server.specs.Spans.{Span, OfSome}
use Rattle.sd_server.specs.Texts.{list_text}

-- what the list of a collector tells is so at this moment: the allocation is the current one, the round is open, and the text has the
-- groups of those of these targets that are of the job
pub record IsListOf (at : Option (List ℕ)) (job : List ℕ) (place id : ℕ) (head : ListHead) (groups targets : List ℕ) (h : History) : Type 0 where
  pub collector : head.collector ≡ id
  pub allocation : head.allocation ≡ current_of h.state
  pub round : head.round ≡ h.state.round
  pub text : groups ≡ list_text at job head place targets h

-- a list that is served in order has what the collector's list has at one moment
abbrev pub ServedAreOfOneMoment : Type 0
ServedAreOfOneMoment =
    (span : Span) (at : Option (List ℕ)) (job : List ℕ) (place id : ℕ) (head : ListHead) (groups : List ℕ) → SaysGiven span at job place id (Serve id job) (ListOf head groups)
    → OfSome span (λ h. IsListOf at job place id head groups (list_at h.state id (place_of h.state job)) h)

-- what a list keeps until it is acknowledged is so at one moment
abbrev pub KeptAreOfOneMoment : Type 0
KeptAreOfOneMoment =
    (span : Span) (at : Option (List ℕ)) (job : List ℕ) (place id : ℕ) (head : ListHead) (groups : List ℕ) → SaysKept span at job place id (ListOf head groups)
    → OfSome span (λ h. IsListOf at job place id head groups (kept_of h.state place id) h)

-- at each moment what collectors hold is known
abbrev pub HeldAreKnown : Span → Type 0
HeldAreKnown span = (moment : List Line) → IsPrefix moment span.after → (id : ℕ) → AreKnown (history_of span.opening moment) (held_by (history_of span.opening moment).state id)

-- a list that is taken has what the collector holds at one moment, where what is held is known
abbrev pub TakenAreOfOneMoment : Type 0
TakenAreOfOneMoment =
    (span : Span) (at : Option (List ℕ)) (job : List ℕ) (place id : ℕ) (head : ListHead) (groups : List ℕ) → HeldAreKnown span → SaysGiven span at job place id (Take id) (ListOf head groups)
    → OfSome span (λ h. IsListOf None job place id head groups (held_by h.state id) h)
