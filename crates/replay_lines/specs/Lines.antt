-- What one line of a replay comes to, and how much of the text stands after some of the lines.
use denote.Ref.{Bor}
use Rattle.std.specs.Prelude.{◌≡◌, ℕ, ◌+◌, List, [], ◌++◌, length, Bool, ◌||◌, Option, Some, None, is_some, if◌then◌else◌}
use Rattle.std.specs.Option.{option_map_or}
use Rattle.std.specs.Str.{bytes_eq}
use Rattle.allocation_core.specs.State.{State}
use Rattle.allocation_core.specs.Steps.{answer_of, state_after}
use Rattle.fleet_events.specs.Reading.{event_of}
use Rattle.replay_lines.specs.Replays.{Written, answered_line, lines_in}

-- the lines of what follows a line feed, or of nothing
abbrev pub lines_left : Option (Bor (List ℕ)) → List (List ℕ)
lines_left None = []
lines_left (Some bytes) = lines_in bytes.now

-- how long it is, with its line feed
abbrev pub size_left : Option (Bor (List ℕ)) → ℕ
size_left None = 0
size_left (Some bytes) = length bytes.now + 1

-- the line is empty or says an event
abbrev pub is_read : List ℕ → Bool
is_read line = bytes_eq line [] || is_some (event_of line)

-- the text that the line adds
abbrev pub text_of_line : State → List ℕ → List ℕ
text_of_line m line = if bytes_eq line [] then [] else option_map_or (λ event. answered_line (answer_of m event)) (event_of line) []

-- the state after the line
abbrev pub state_past : State → List ℕ → State
state_past m line = if bytes_eq line [] then m else option_map_or (state_after m) (event_of line) m

-- a front of the text was added
pub record AddsFront (text old new : List ℕ) : Type 0 where
  pub front : List ℕ
  pub rest : List ℕ
  pub whole : text ≡ front ++ rest
  pub added : new ≡ old ++ front

-- What was added and what is left to add make up the whole.
pub record IsAhead (whole left : Written) (old new : List ℕ) : Type 0 where
  pub front : List ℕ
  pub text : whole.text ≡ front ++ left.text
  pub added : new ≡ old ++ front
  pub ended : whole.ended ≡ left.ended
