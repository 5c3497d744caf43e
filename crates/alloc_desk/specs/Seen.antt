-- What a front has seen of the one journal that comes out of a desk.
use Rattle.std.specs.Prelude.{◌≡◌, List, [], ◌∷◌, ◌++◌}
use mathlib.Core.List.{IsPrefix}
use Rattle.allocation_core.specs.State.{State}
use Rattle.fleet_events.specs.declared.event.Event.{Event}
use Rattle.journal_entries.specs.declared.entry.Entry.{Entry}
use Rattle.alloc_desk.specs.declared.receipt.Receipt.{Receipt}
use Rattle.alloc_desk.specs.Counts.{Counts}
use Rattle.alloc_desk.specs.History.{history_of}
use Rattle.alloc_desk.specs.Reached.{Reached, IsReceipt}

-- the entry of which a receipt tells
abbrev pub entry_of : Event → Receipt → Entry
entry_of event receipt = record { event = event; seat = receipt.seat; answer = receipt.answer }

-- the receipt's entry came behind what had been seen, and is the last that was seen then; its answer is the machine's after those before it
pub record IsAdded (opening : State) (event : Event) (counts : Counts) (receipt : Receipt) (old new : List Entry) : Type 0 where
  pub before : List Entry
  pub seen : IsPrefix old before
  pub entries : new ≡ before ++ entry_of event receipt ∷ []
  pub told : IsReceipt event counts receipt (history_of opening before)

-- what was seen is legal, and has at least what a pass did
abbrev pub HasDone : State → Counts → List Entry → Type 0
HasDone opening counts seen = Reached opening counts (λ h. h ≡ history_of opening seen)
