-- The state that a whole text of lines leads to: that after the events of all its lines, from the state that the first line opens.
-- A line that is neither empty nor an event is the damage, and so is a first line that opens nothing. Lines are counted from 1.
use Rattle.std.specs.Prelude.{◌≡◌, ℕ, ◌+◌, List, [], ◌∷◌, ◌++◌, length, Option, Some, None, Result, Ok, Err, if◌then◌else◌}
use Rattle.std.specs.Option.{option_map_or}
use Rattle.allocation_core.specs.State.{State}
use Rattle.allocation_core.specs.Runs.{state_of}
use Rattle.replay_lines.specs.AsRuns.{events_of}
use Rattle.replay_lines.specs.Configurations.{opened}
use Rattle.replay_lines.specs.Lines.{is_read}
use Rattle.replay_lines.specs.Replays.{Written, lines_in, replay_of, total_line, unreadable_line}
use Rattle.replay_lines.specs.declared.resuming.Damage.{Damage}
use Rattle.replay_lines.specs.declared.resuming.Resumption.{Resumption}
use Rattle.replay_lines.specs.declared.run.Ended.TheVariants.{Done, Unreadable}

abbrev pub resumption_at : State → ℕ → Resumption
resumption_at m events = record { core = m; events = events }

abbrev pub damage_at : ℕ → Damage
damage_at number = record { line = number }

-- a state, with the count of events or the damage
abbrev pub resumption_of : State → Result ℕ Damage → Result Resumption Damage
resumption_of m (Ok events) = Ok (resumption_at m events)
resumption_of m (Err damage) = Err damage

-- the number of the first of the lines that is not read, where this is the number of the first of them
unfoldable pub unread_from : ℕ → List (List ℕ) → Option ℕ
unread_from number [] = None
unread_from number (line ∷ lines) = if is_read line then unread_from (number + 1) lines else Some number

-- after the lines that follow the first
abbrev pub resumed_from : State → List (List ℕ) → Result Resumption Damage
resumed_from m lines = option_map_or (λ number. Err (damage_at number)) (unread_from 2 lines) (Ok (resumption_at (state_of m (events_of lines)) (length (events_of lines))))

-- by the first line, and the others
abbrev pub resumed_by : List (List ℕ) → Result Resumption Damage
resumed_by [] = Err (damage_at 1)
resumed_by (first ∷ lines) = option_map_or (λ m. resumed_from m lines) (opened first) (Err (damage_at 1))

unfoldable pub resumed : List ℕ → Result Resumption Damage
resumed input = resumed_by (lines_in input)

-- ---- beside the replay of the same text

-- The replay is done where the text leads to a state, and it ends with the total of that state; it stops at the line of the damage.
unfoldable pub EndsAs : Written → Result Resumption Damage → Type 0
EndsAs written (Ok resumption) = (written.ended ≡ Done) × (answers : List ℕ) × (written.text ≡ answers ++ total_line resumption.core)
EndsAs written (Err damage) = (written.ended ≡ Unreadable) × (answers : List ℕ) × (written.text ≡ answers ++ unreadable_line damage.line)

-- Where the replay is done, it is the state after the events that were answered.
abbrev pub ResumesWhereDone : Type 0
ResumesWhereDone =
    (input first : List ℕ) (lines : List (List ℕ)) (m : State) → lines_in input ≡ first ∷ lines → opened first ≡ Some m → (replay_of input).ended ≡ Done
    → resumed input ≡ Ok (resumption_at (state_of m (events_of lines)) (length (events_of lines)))
