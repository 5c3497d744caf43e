-- What was seen of the one journal that comes out of a desk, while a request was answered.
use Rattle.std.specs.Prelude.{◌≡◌, List, [], ◌∷◌, ◌++◌}
use mathlib.Core.List.{IsPrefix}
use Rattle.allocation_core.specs.State.{State}
use Rattle.fleet_events.specs.declared.event.Event.{Event}
use Rattle.journal_entries.specs.declared.entry.Entry.{Entry as Line}
use Rattle.alloc_desk.specs.Counts.{Counts}
use Rattle.alloc_desk.specs.History.{History, history_of}
use Rattle.alloc_desk.specs.Reached.{IsReceipt}
use Rattle.alloc_desk.specs.Seen.{entry_of}
use Rattle.alloc_desk.specs.declared.receipt.Receipt.{Receipt}

pub record Span : Type 0 where
  -- the state that the desk was opened with
  pub opening : State
  -- all that had been seen of the journal when the request came
  pub before : List Line
  -- all that has been seen of it now
  pub after : List Line

-- nothing was entered in between
abbrev pub at_once : State → List Line → Span
at_once opening seen = record { opening = opening; before = seen; after = seen }

-- the state after all that has been seen, with that journal
abbrev pub now_of : Span → History
now_of span = history_of span.opening span.after

-- more was seen of the same journal, or as much
pub record Moves (old new : Span) : Type 0 where
  pub opening : new.opening ≡ old.opening
  pub before : new.before ≡ old.before
  pub begun : IsPrefix old.before old.after
  pub after : IsPrefix old.after new.after

-- what was seen from one moment on to another
abbrev pub between : Span → Span → Span
between old new = record { opening = new.opening; before = old.after; after = new.after }

-- all that was seen, from the first entry on
abbrev pub from_first : Span → Span
from_first span = record { opening = span.opening; before = []; after = span.after }

-- this holds at a moment of the journal: after some of its entries, all that had been seen when the request came among them
pub record OfSome (span : Span) (Holds : History → Type 0) : Type 0 where
  pub moment : List Line
  pub begun : IsPrefix span.before moment
  pub seen : IsPrefix moment span.after
  pub holds : Holds (history_of span.opening moment)

-- The receipt's entry stands in the journal, behind all that had been seen when the request came. Its answer is the machine's after the
-- entries before it.
pub record IsEntered (span : Span) (event : Event) (receipt : Receipt) : Type 0 where
  pub earlier : List Line
  pub begun : IsPrefix span.before earlier
  pub stands : IsPrefix (earlier ++ entry_of event receipt ∷ []) span.after
  pub told : (counts : Counts) × IsReceipt event counts receipt (history_of span.opening earlier)
