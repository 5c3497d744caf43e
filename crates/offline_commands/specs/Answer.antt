-- What a command answers, and how the program ends on it.
use Rattle.std.specs.Prelude.{◌≡◌, ◌<◌, ◌≤◌, ◌++◌, ◌⊎◌, ℕ, List, [], Option, IfSome, length}
use Rattle.std.specs.Io.KnownBytes.{Appends}
use Rattle.offline_commands.specs.Reading.{most_input}
use Rattle.offline_commands.specs.Unreadable.{unreadable_line}
use Rattle.offline_commands.specs.Writing.{AppendsPart}
use Rattle.offline_commands.specs.Ending.{stop_line}
use Rattle.offline_commands.specs.declared.answer.Answer.{Answer}
use Rattle.offline_commands.specs.declared.answer.Answer.TheVariants.{NotRead, Text}
use Rattle.offline_commands.specs.declared.ending.Ending.{Ending}
use Rattle.offline_commands.specs.declared.ending.Ending.TheVariants.{Answered, Stopped, Unwritten}
use Rattle.offline_commands.specs.declared.ending.Status.{Status}
use Rattle.offline_commands.specs.declared.ending.Status.TheVariants.{Unreadable}
use Rattle.offline_commands.specs.declared.ending.Stop.TheVariants.{Memory, Device}
use Rattle.offline_commands.specs.declared.unreadable.Unreadable.TheVariants.{TooLong}

abbrev pub answer_text : Answer → List ℕ
answer_text (NotRead why) = unreadable_line why
answer_text (Text text status) = text

abbrev pub answer_status : Answer → Status
answer_status (NotRead why) = Unreadable
answer_status (Text text status) = status

-- which answers a command may give to an input that is not too long
abbrev pub Answers : Type 1
Answers = List ℕ → Answer → Type 0

-- which fronts of an answer may be there when memory ends
abbrev pub Fronts : Type 1
Fronts = List ℕ → List ℕ → Type 0

-- nothing of an answer is there before all of it
abbrev pub NoFront : Fronts
NoFront input front = ⊥

abbrev pub IsFront : Fronts → List ℕ → List ℕ → Type 0
IsFront begins input front = (front ≡ []) ⊎ begins input front

-- an input that is too long is not looked at
abbrev pub IsAnswer : Answers → List ℕ → Answer → Type 0
IsAnswer answers input answer = ((most_input < length input) × (answer ≡ NotRead TooLong)) ⊎ ((length input ≤ most_input) × answers input answer)

module _ (answers : Answers) (begins : Fronts) (input : List ℕ) where
  -- What the whole text is where the program ends so: an answer, a front of one and the line `memory`, or the line `device`.
  abbrev pub IsText : Ending → List ℕ → Type 0
  IsText (Answered status) text = (answer : Answer) × IsAnswer answers input answer × (status ≡ answer_status answer) × (text ≡ answer_text answer)
  IsText (Stopped Memory) text = (front : List ℕ) × IsFront begins input front × (text ≡ front ++ stop_line Memory)
  IsText (Stopped Device) text = text ≡ stop_line Device
  IsText Unwritten text = ⊥

  -- The writer's bytes are those before and the whole text, or a first part of one where the writer failed.
  abbrev pub EndsAs : Option (List ℕ) → Option (List ℕ) → Ending → Type 0
  EndsAs before after (Answered status) = (text : List ℕ) × IsText (Answered status) text × Appends before after text
  EndsAs before after (Stopped stop) = (text : List ℕ) × IsText (Stopped stop) text × Appends before after text
  EndsAs before after Unwritten = (meant : Ending) × (text : List ℕ) × IsText meant text × AppendsPart before after text

-- the same for the reader's bytes, where it tells them
abbrev pub EndsTo : Answers → Fronts → Option (List ℕ) → Option (List ℕ) → Option (List ℕ) → Ending → Type 0
EndsTo answers begins remaining before after ending = IfSome remaining (λ input. EndsAs answers begins input before after ending)
