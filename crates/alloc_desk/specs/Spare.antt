-- The lists that a copy of an answer needs: only what a collector took or was served has some.
use Rattle.std.specs.Prelude.{◌≡◌, ℕ, List, [], Option, Some}
use Rattle.served_lists.specs.declared.list.ServedList.{ServedList as Lists}
use Rattle.allocation_core.specs.State.{State, held_by, left_out_at, list_at}
use Rattle.allocation_core.specs.Steps.{place_of}
use Rattle.fleet_events.specs.declared.event.Event.{Event}
use Rattle.fleet_events.specs.declared.event.Event.TheVariants.{Take, Serve}
use Rattle.fleet_events.specs.declared.answer.Answer.{Answer}
use Rattle.fleet_events.specs.declared.answer.Answer.TheVariants.{Taken, Served}

abbrev pub lists_of : List ℕ → List ℕ → Lists
lists_of listed left_out = record { listed = listed; left_out = left_out }

-- they are those that the event's answer will have
abbrev pub IsSpareOf : State → Event → Option Lists → Type 0
IsSpareOf m (Take collector) spare = spare ≡ Some (lists_of (held_by m collector) [])
IsSpareOf m (Serve collector name) spare = spare ≡ Some (lists_of (list_at m collector (place_of m name)) (left_out_at m collector (place_of m name)))
IsSpareOf m _ spare = Unit {0}

-- they are the answer's
abbrev pub IsSpareFor : Answer → Option Lists → Type 0
IsSpareFor (Taken allocation round held) spare = spare ≡ Some (lists_of held [])
IsSpareFor (Served allocation round listed left_out) spare = spare ≡ Some (lists_of listed left_out)
IsSpareFor _ spare = Unit {0}
