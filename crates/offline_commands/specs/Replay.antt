-- What `allocd replay` answers.
use Rattle.std.specs.Prelude.{◌≡◌, ◌++◌, ℕ, List, Result, Ok, Err, codes}
use Rattle.std.specs.Fmt.{decimal}
use Rattle.sealed_lines.specs.Reading.{plain_of}
use Rattle.sealed_lines.specs.declared.unsealing.WrongDigest.{WrongDigest}
use Rattle.replay_lines.specs.AsRuns.{IsRunOf}
use Rattle.replay_lines.specs.Replays.{replay_of}
use Rattle.replay_lines.specs.declared.run.Ended.{Ended}
use Rattle.replay_lines.specs.declared.run.Ended.TheVariants as ended
use Rattle.offline_commands.specs.Answer.{Answers}
use Rattle.offline_commands.specs.declared.answer.Answer.{Answer}
use Rattle.offline_commands.specs.declared.answer.Answer.TheVariants.{NotRead, Text}
use Rattle.offline_commands.specs.declared.ending.Status.{Status}
use Rattle.offline_commands.specs.declared.ending.Status.TheVariants.{Done, Unreadable}

abbrev pub ended_status : Ended → Status
ended_status ended.Done = Done
ended_status ended.Unreadable = Unreadable

-- The text is what the replay of the input says: the answers of a run of the machine over the events that the lines say,
-- where each published allocation is the best of its moment, or the best within caps that cost nothing, and each booked report is
-- the holder's.
pub record IsReplay (input text : List ℕ) (status : Status) : Type 0 where
  pub says : text ≡ (replay_of input).text
  pub ends : status ≡ ended_status (replay_of input).ended
  pub run : IsRunOf input (replay_of input)

-- the front of such a text
pub record BeginsReplay (input front : List ℕ) : Type 0 where
  pub rest : List ℕ
  pub says : front ++ rest ≡ (replay_of input).text
  pub run : IsRunOf input (replay_of input)

abbrev pub IsAnswerOfReplay : Answers
IsAnswerOfReplay input (NotRead why) = ⊥
IsAnswerOfReplay input (Text text status) = IsReplay input text status

-- ---- of lines with digests or without

-- a line whose digest is wrong
abbrev pub wrong_line : WrongDigest → List ℕ
wrong_line wrong = codes "unreadable " ++ (decimal wrong.line ++ codes " WrongDigest\n")

abbrev pub unreadable_for : WrongDigest → Answer
unreadable_for wrong = Text (wrong_line wrong) Unreadable

abbrev pub IsReplayOf : Result (List ℕ) WrongDigest → List ℕ → Status → Type 0
IsReplayOf (Ok lines) text status = IsReplay lines text status
IsReplayOf (Err wrong) text status = (text ≡ wrong_line wrong) × (status ≡ Unreadable)

abbrev pub BeginsReplayOf : Result (List ℕ) WrongDigest → List ℕ → Type 0
BeginsReplayOf (Ok lines) front = BeginsReplay lines front
BeginsReplayOf (Err wrong) front = ⊥

-- each input that is not too long is replayed, unless a digest is wrong
abbrev pub Replays : Answers
Replays input (NotRead why) = ⊥
Replays input (Text text status) = IsReplayOf (plain_of input) text status

abbrev pub Begins : List ℕ → List ℕ → Type 0
Begins input front = BeginsReplayOf (plain_of input) front
