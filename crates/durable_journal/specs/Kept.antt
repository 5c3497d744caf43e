-- Which events have a line in the file: those that were not refused, since a refused event changes nothing.
use Rattle.std.specs.Prelude.{◌≡◌, List, [], ◌∷◌, ◌++◌, Bool, true, false, if◌then◌else◌}
use Rattle.journal_entries.specs.Legal.{IsLegal}
use Rattle.journal_entries.specs.declared.entry.Entry.{Entry}
use Rattle.allocation_core.specs.State.{State}
use Rattle.allocation_core.specs.Runs.{state_of}
use Rattle.fleet_events.specs.declared.answer.Answer.{Answer}
use Rattle.fleet_events.specs.declared.answer.Answer.TheVariants.{Discovered, Joined, Left, Draining, LimitsSet, Published, RoundOpen, Taken, Served, Released, Booked, Not}
use Rattle.fleet_events.specs.declared.event.Event.{Event}

abbrev pub is_kept : Answer → Bool
is_kept (Discovered added removed) = true
is_kept (Joined id) = true
is_kept Left = true
is_kept Draining = true
is_kept LimitsSet = true
is_kept (Published number) = true
is_kept (RoundOpen round) = true
is_kept (Taken allocation round held) = true
is_kept (Served allocation round listed left_out) = true
is_kept (Released count) = true
is_kept Booked = true
is_kept (Not refusal) = false

-- the events of entries that were not refused, in order
abbrev pub kept_in : List Entry → List Event
kept_in [] = []
kept_in (entry ∷ entries) = if is_kept entry.answer then entry.event ∷ kept_in entries else kept_in entries

-- entry by entry, or some at once
abbrev pub KeptInParts : Type 0
KeptInParts = (entries more : List Entry) → kept_in (entries ++ more) ≡ kept_in entries ++ kept_in more

-- a legal journal and the events of it that are kept lead to the same state
abbrev pub LeaveOutRefused : Type 0
LeaveOutRefused = (opening end : State) (journal : List Entry) → IsLegal opening journal end → state_of opening (kept_in journal) ≡ end
