-- The total at the end of a session.
use Rattle.std.specs.Prelude.{◌≡◌, ℕ, List, ◌++◌}
use Rattle.allocation_core.specs.State.{State}
use Rattle.allocation_core.specs.Runs.{state_of}
use Rattle.fleet_events.specs.declared.event.Event.{Event}
use Rattle.scrape_books.specs.Books.{total_of}
use Rattle.session.specs.Lines.{total_line}

-- events of the machine lead from the first state to the second
abbrev pub IsReached : State → State → Type 0
IsReached opening state = (events : List Event) × (state ≡ state_of opening events)

-- behind the lines so far stand the total of a state that events lead to, and the answers
abbrev pub IsEnded : State → List ℕ → List ℕ → List ℕ → Type 0
IsEnded opening answers lines text = (state : State) × IsReached opening state × (text ≡ lines ++ (total_line (total_of state.booked) ++ answers))
