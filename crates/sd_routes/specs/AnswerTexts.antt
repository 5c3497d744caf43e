-- How the allocator's answers are told.
use Rattle.std.specs.Prelude.{ℕ, List, [], ◌∷◌, ◌++◌, codes}
use Rattle.std.specs.Fmt.{decimal}
use Rattle.fleet_events.specs.Lines.{answer_line}
use Rattle.fleet_events.specs.declared.answer.Answer.{Answer}
use Rattle.fleet_events.specs.declared.answer.Answer.TheVariants.{Not}

abbrev pub front_of : Answer → List ℕ
front_of (Not refusal) = codes "{\"refused\":\""
front_of _ = codes "{\"answer\":\""

-- the object that tells an answer by its line
abbrev pub answer_text : Answer → List ℕ
answer_text answer = front_of answer ++ answer_line answer ++ codes "\"}"

abbrev pub quoted_line : Answer → List ℕ
quoted_line answer = codes "\"" ++ (answer_line answer ++ codes "\"")

-- answers behind another one
abbrev pub more_lines : List Answer → List ℕ
more_lines [] = []
more_lines (answer ∷ answers) = codes "," ++ (quoted_line answer ++ more_lines answers)

abbrev pub lines_text : List Answer → List ℕ
lines_text [] = []
lines_text (answer ∷ answers) = quoted_line answer ++ more_lines answers

-- the object that tells answers by their lines, in order, and the round that is open
abbrev pub answers_text : List Answer → ℕ → List ℕ
answers_text answers round = codes "{\"answers\":[" ++ (lines_text answers ++ (codes "],\"open\":" ++ (decimal round ++ codes "}")))
