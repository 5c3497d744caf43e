-- What a replay writes: for the events of the lines after the first, in order, the lines of their answers, and then the
-- total; at the first line that says no event, its number and nothing after it. Lines are what stands between line feeds,
-- and are counted from 1; empty ones after the first are skipped.
use Rattle.std.specs.Prelude.{ℕ, ◌+◌, ◌==◌, List, [], ◌∷◌, ◌++◌, codes, if◌then◌else◌}
use Rattle.std.specs.Fmt.{decimal}
use Rattle.std.specs.List.{slice_split}
use Rattle.std.specs.Option.{option_map_or}
use Rattle.std.specs.Str.{bytes_eq}
use Rattle.fleet_events.specs.Lines.{answer_line}
use Rattle.scrape_books.specs.Books.{total_of}
use Rattle.allocation_core.specs.State.{State}
use Rattle.allocation_core.specs.Steps.{answer_of, state_after}
use Rattle.fleet_events.specs.declared.answer.Answer.{Answer}
use Rattle.replay_lines.specs.Configurations.{opened}
use Rattle.fleet_events.specs.Reading.{event_of}
use Rattle.replay_lines.specs.declared.run.Ended.{Ended}
use Rattle.replay_lines.specs.declared.run.Ended.TheVariants.{Done, Unreadable}

-- a text, and how the replay ended
pub record Written : Type 0 where
  pub text : List ℕ
  pub ended : Ended

abbrev pub line_feed : List ℕ
line_feed = codes "\n"

-- ---- the lines

abbrev pub unreadable_line : ℕ → List ℕ
unreadable_line number = codes "unreadable " ++ (decimal number ++ line_feed)

abbrev pub total_line : State → List ℕ
total_line m = codes "total " ++ (decimal (total_of m.booked) ++ line_feed)

abbrev pub answered_line : Answer → List ℕ
answered_line answer = answer_line answer ++ line_feed

-- ---- all of them

abbrev pub unreadable_at : ℕ → Written
unreadable_at number = record { text = unreadable_line number; ended = Unreadable }

abbrev pub totalled : State → Written
totalled m = record { text = total_line m; ended = Done }

-- an answer's line, and then the rest
abbrev pub answered : Answer → Written → Written
answered answer rest = record { text = answered_line answer ++ rest.text; ended = rest.ended }

-- what is written from the line of this number on
unfoldable pub written_from : ℕ → State → List (List ℕ) → Written
written_from number m [] = totalled m
written_from number m (line ∷ lines) =
    if bytes_eq line [] then written_from (number + 1) m lines
    else option_map_or (λ event. answered (answer_of m event) (written_from (number + 1) (state_after m event) lines)) (event_of line) (unreadable_at number)

-- by the first line, and the others
unfoldable pub written_by : List (List ℕ) → Written
written_by [] = unreadable_at 1
written_by (first ∷ lines) = option_map_or (λ m. written_from 2 m lines) (opened first) (unreadable_at 1)

-- what stands between line feeds
abbrev pub lines_in : List ℕ → List (List ℕ)
lines_in input = slice_split (λ b. b == 10) input

unfoldable pub replay_of : List ℕ → Written
replay_of input = written_by (lines_in input)
