-- What a file has of a journal's text: each of its lines with its digest, or, where the file was begun before there were digests, the text.
use Rattle.std.specs.Prelude.{◌≡◌, ℕ, List, [], ◌∷◌, ◌++◌, length, Option, Some, None, Ok, false, true}
use Rattle.allocation_core.specs.State.{State}
use Rattle.allocation_core.specs.Runs.{state_of}
use Rattle.fleet_events.specs.declared.event.Event.{Event}
use Rattle.replay_lines.specs.Resumes.{resumed, resumption_at}
use Rattle.sealed_lines.specs.Chains.{behind, chain_after, sealed, start}
use Rattle.sealed_lines.specs.Lines.{AreLines, HasNoFeed, with_line, written}
use Rattle.sealed_lines.specs.Reading.{is_sealed}
use Rattle.sealed_lines.specs.declared.chain.Chain.{Chain}
use Rattle.durable_journal.specs.Events.{AreSaid, event_lines, events_text}
use Rattle.durable_journal.specs.Journals.{IsJournal}
use Rattle.durable_journal.specs.Lines.{whole_part}
use Rattle.durable_journal.specs.Marks.{begins_journal, is_journal_text, settled_in}
use Rattle.durable_journal.specs.declared.recovering.Recovered.TheVariants.{Found}

-- the bytes of lines behind a digest, or where there are no digests
abbrev pub bytes_of : Option Chain → List (List ℕ) → List ℕ
bytes_of None lines = written lines
bytes_of (Some chain) lines = sealed chain lines

-- the last digest then
abbrev pub chain_past : Option Chain → List (List ℕ) → Option Chain
chain_past None lines = None
chain_past (Some chain) lines = Some (chain_after chain lines)

-- the bytes are the text's lines with their digests, of which this is the last
pub record IsSealedFile (bytes text : List ℕ) (chain : Chain) : Type 0 where
  pub lines : List (List ℕ)
  pub are : AreLines lines
  pub whole : bytes ≡ sealed start lines
  pub says : text ≡ written lines
  pub last : chain ≡ chain_after start lines

-- the bytes of a file have the text, and further lines stand behind this digest, or have none
abbrev pub IsFileOf : List ℕ → List ℕ → Option Chain → Type 0
IsFileOf bytes text None = (bytes ≡ text) × (is_sealed bytes ≡ false)
IsFileOf bytes text (Some chain) = IsSealedFile bytes text chain

-- a first line that is written with its digest begins such a file
abbrev pub BeginsFile : Type 0
BeginsFile = (line : List ℕ) → HasNoFeed line → IsFileOf (sealed start (line ∷ [])) (with_line line []) (Some (behind start line))

-- and a file of a journal to which lines of events are appended is one of the longer journal
abbrev pub GrowsFile : Type 0
GrowsFile =
    (bytes text : List ℕ) (chain : Option Chain) (m : State) (events others : List Event) → IsJournal text m events → IsFileOf bytes text chain → AreSaid others
    → IsFileOf (bytes ++ bytes_of chain (event_lines others)) (text ++ events_text others) (chain_past chain (event_lines others)) × IsJournal (text ++ events_text others) m (events ++ others)

-- What is found in a file that begins with that of a journal: the text of its events and of a beginning of the others, with what is to
-- be known to go on behind it.
pub record IsFoundIn (file : List ℕ) (m : State) (events others : List Event) : Type 0 where
  pub done : List Event
  pub left : List Event
  pub part : others ≡ done ++ left
  pub text : List ℕ
  pub chain : Option Chain
  pub torn : ℕ
  pub found : settled_in file ≡ Found text chain (length (whole_part file)) torn
  pub journal : IsJournal text m (events ++ done)
  pub goes_on : IsFileOf (whole_part file) text chain
  pub state : resumed text ≡ Ok (resumption_at (state_of m (events ++ done)) (length (events ++ done)))

-- A crash leaves a file of a journal and a beginning of what was being appended to it. Then no event of the journal is lost.
abbrev pub SurvivesInFile : Type 0
SurvivesInFile =
    (bytes text front lost : List ℕ) (chain : Option Chain) (m : State) (events others : List Event) → IsJournal text m events → IsFileOf bytes text chain → AreSaid others
    → front ++ lost ≡ bytes_of chain (event_lines others) → IsFoundIn (bytes ++ front) m events others

-- And it is told to be a journal, where the file began as one.
abbrev pub AcceptsFile : Type 0
AcceptsFile =
    (bytes text front lost : List ℕ) (chain : Option Chain) (m : State) (events others : List Event) → IsJournal text m events → IsFileOf bytes text chain → begins_journal bytes ≡ true
    → front ++ lost ≡ bytes_of chain (event_lines others) → is_journal_text (bytes ++ front) ≡ true
