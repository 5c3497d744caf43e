-- What an event books, read off the event and its answer one after the other.
use Rattle.std.specs.Prelude.{ℕ, Bool, true, false}
use Rattle.scrape_books.specs.Books.{samples_of}
use Rattle.fleet_events.specs.declared.event.Event.{Event}
use Rattle.fleet_events.specs.declared.event.Event.TheVariants.{Report}
use Rattle.fleet_events.specs.declared.answer.Answer.{Answer}
use Rattle.fleet_events.specs.declared.answer.Answer.TheVariants.{Booked}

-- the samples that an event books where it is booked
abbrev pub offered : Event → ℕ
offered (Report report) = samples_of report.outcome
offered _ = 0

abbrev pub is_booked : Answer → Bool
is_booked Booked = true
is_booked _ = false
