-- A replay is a run of the machine over the events that its lines say.
use Rattle.std.specs.Prelude.{◌≡◌, ℕ, List, [], ◌∷◌, ◌++◌, Some, if◌then◌else◌}
use Rattle.std.specs.Option.{option_map_or}
use Rattle.std.specs.Str.{bytes_eq}
use Rattle.fleet_events.specs.Reading.{event_of}
use Rattle.allocation_core.specs.State.{State, first_state}
use Rattle.allocation_core.specs.Runs.{answers_of, state_of}
use Rattle.allocation_core.specs.Best.{AllBest}
use Rattle.allocation_core.specs.Booked.{AllBooked}
use Rattle.fleet_events.specs.declared.answer.Answer.{Answer}
use Rattle.fleet_events.specs.declared.event.Event.{Event}
use Rattle.fleet.specs.declared.job.JobSpec.{JobSpec}
use Rattle.replay_lines.specs.Configurations.{opened}
use Rattle.replay_lines.specs.Replays.{Written, answered_line, total_line, written_by, lines_in}
use Rattle.replay_lines.specs.declared.run.Ended.TheVariants.{Done}

-- the lines of answers, in order
abbrev pub answered_lines : List Answer → List ℕ
answered_lines [] = []
answered_lines (answer ∷ answers) = answered_line answer ++ answered_lines answers

-- the events that the lines say, up to the first line that is neither empty nor an event
unfoldable pub events_of : List (List ℕ) → List Event
events_of [] = []
events_of (line ∷ lines) = if bytes_eq line [] then events_of lines else option_map_or (λ event. event ∷ events_of lines) (event_of line) []

-- What is written are the lines of the answers to these events, and then one more: the total of the last state where the replay is done.
pub record IsRunFrom (m : State) (events : List Event) (written : Written) : Type 0 where
  pub last : List ℕ
  pub text : written.text ≡ answered_lines (answers_of m events) ++ last
  pub total : written.ended ≡ Done → last ≡ total_line (state_of m events)

-- and each allocation is the best of its moment, or the best within caps that cost nothing, and each report booked as it should be
pub record IsRun (jobs : List JobSpec) (report_rounds : ℕ) (events : List Event) (written : Written) : Type 0 where
  pub run : IsRunFrom (first_state jobs report_rounds) events written
  pub best : AllBest (first_state jobs report_rounds) events (state_of (first_state jobs report_rounds) events)
  pub booked : AllBooked (first_state jobs report_rounds) events (state_of (first_state jobs report_rounds) events)

abbrev pub ReplaysAreRuns : Type 0
ReplaysAreRuns = (first : List ℕ) (lines : List (List ℕ)) (jobs : List JobSpec) (report_rounds : ℕ) → opened first ≡ Some (first_state jobs report_rounds) → IsRun jobs report_rounds (events_of lines) (written_by (first ∷ lines))

-- from whatever state the first line opens
abbrev pub IsRunOfOpened : List ℕ → Written → Type 0
IsRunOfOpened input written = (first : List ℕ) (lines : List (List ℕ)) (m : State) → lines_in input ≡ first ∷ lines → opened first ≡ Some m → IsRunFrom m (events_of lines) written

-- what is written for this input
abbrev pub IsRunOf : List ℕ → Written → Type 0
IsRunOf input written = (first : List ℕ) (lines : List (List ℕ)) (jobs : List JobSpec) (report_rounds : ℕ) → lines_in input ≡ first ∷ lines → opened first ≡ Some (first_state jobs report_rounds) → IsRun jobs report_rounds (events_of lines) written
