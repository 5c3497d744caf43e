-- The receipts that a journal gave.
use Rattle.std.specs.Prelude.{ℕ, ◌+◌, List, [], ◌∷◌}
use Rattle.fleet_events.specs.declared.event.Event.{Event}
use Rattle.journal_entries.specs.declared.entry.Entry.{Entry}
use Rattle.alloc_desk.specs.declared.receipt.Receipt.{Receipt}

-- an entry's event, with its receipt at a position
abbrev pub told : ℕ → Entry → Event × Receipt
told position entry = (entry.event, record { position = position; seat = entry.seat; answer = entry.answer })

-- all events with their receipts, from a position on
abbrev pub told_from : ℕ → List Entry → List (Event × Receipt)
told_from position [] = []
told_from position (entry ∷ entries) = told position entry ∷ told_from (position + 1) entries
