-- What `allocd plan --spread` answers.
use Rattle.std.specs.Prelude.{◌≡◌, ◌++◌, ℕ, IfSome, List, None, codes, map}
use Rattle.std.specs.List.Sorted.{IsStrictlyIncreasing}
use Rattle.serde_json.specs.Written.{compact_text}
use Rattle.price_certificate.specs.Problem.{Problem}
use Rattle.spread_certificate.specs.Document.{spread_document_data}
use Rattle.spread_certificate.specs.Judged.{spread_fault}
use Rattle.spread_certificate.specs.declared.spread.Spread.{Spread}
use Rattle.spread_engine.specs.Telling.{IsTold}
use Rattle.spread_engine.specs.Witness.{MovesFew}
use Rattle.command_words.specs.declared.asked.SpreadOptions.{SpreadOptions}
use Rattle.offline_commands.specs.Answer.{Answers}
use Rattle.offline_commands.specs.Plan.{IsInstance}
use Rattle.offline_commands.specs.Unreadable.{IsUnreadable}
use Rattle.offline_commands.specs.declared.answer.Answer.TheVariants.{NotRead, Text}
use Rattle.offline_commands.specs.declared.ending.Status.{Status}
use Rattle.offline_commands.specs.declared.ending.Status.TheVariants.{Done}

-- The text is the document of the instance and a spread in which the judge finds no fault, its pairs in order of items, and a line feed.
-- What it tells of how even it is, is of the jobs and the slack that were asked for; and where moves are bounded it moves at most so many
-- more than any best plan.
pub record IsSpreadOf (options : SpreadOptions) (problem : Problem) (text : List ℕ) : Type 0 where
  pub spread : Spread
  pub judged : spread_fault problem spread ≡ None
  pub ordered : IsStrictlyIncreasing (map (λ (q : ℕ × ℕ). q.0) spread.plan.pairs)
  pub told : IfSome spread.even (IsTold options.jobs options.slack)
  pub moves : IfSome options.most_moves (λ most. MovesFew problem spread.plan.pairs most)
  pub says : text ≡ compact_text (spread_document_data problem spread) ++ codes "\n"

-- the text is a spread for the input's instance
pub record IsSpread (options : SpreadOptions) (input text : List ℕ) (status : Status) : Type 0 where
  pub instance : IsInstance input
  pub plan : IsSpreadOf options instance.problem text
  pub ends : status ≡ Done

-- an input is no instance document, or the text is a spread for it
abbrev pub Spreads : SpreadOptions → Answers
Spreads options input (NotRead why) = IsUnreadable IsInstance input why
Spreads options input (Text text status) = IsSpread options input text status
