-- The bytes of a file that lead to an allocator.
use Rattle.std.specs.Prelude.{◌≡◌, ◌<◌, ℕ, ◌==◌, List, [], ◌∷◌, length, take, Bool, false, ◌&&◌, ◌||◌, Option, Ok}
use Rattle.allocation_core.specs.Runs.{state_of}
use Rattle.allocation_core.specs.State.{State}
use Rattle.durable_journal.specs.Files.{IsFileOf}
use Rattle.durable_journal.specs.Journals.{IsJournal}
use Rattle.durable_journal.specs.Marks.{found_in}
use Rattle.durable_journal.specs.declared.recovering.Recovered.TheVariants.{Found}
use Rattle.fleet_events.specs.declared.event.Event.{Event}
use Rattle.replay_lines.specs.Resumes.{resumed, resumption_at}
use Rattle.sealed_lines.specs.declared.chain.Chain.{Chain}

-- a line feed comes first
abbrev pub begins_fed : List ℕ → Bool
begins_fed [] = false
begins_fed (b ∷ bs) = b == 10

-- a line feed comes right behind another: a line behind the first is empty
abbrev pub has_empty_line : List ℕ → Bool
has_empty_line [] = false
has_empty_line (b ∷ bs) = (b == 10 && begins_fed bs) || has_empty_line bs

-- The bytes are the file of a journal that leads to the state, and behind its last line further ones stand with this digest, if they have any.
pub record LeadsTo (m : State) (bytes : List ℕ) (last : Option Chain) : Type 0 where
  pub text : List ℕ
  pub first : State
  pub events : List Event
  pub file : IsFileOf bytes text last
  pub journal : IsJournal text first events
  pub leads : state_of first events ≡ m

-- What is found of a file, and leads to a state without an empty line, is the file of a journal that leads there once what follows is cut off.
abbrev pub FoundLead : Type 0
FoundLead =
    (bytes text : List ℕ) (chain : Option Chain) (whole torn events : ℕ) (m : State) → found_in bytes ≡ Found text chain whole torn → 0 < length text → resumed text ≡ Ok (resumption_at m events) → has_empty_line text ≡ false
    → LeadsTo m (take whole bytes) chain
