-- What a device keeps of a desk's journal.
use Rattle.std.specs.Prelude.{◌≡◌, ℕ, List, [], ◌++◌, Bool, false, true, Option, None, Some}
use Rattle.allocation_core.specs.Runs.{state_of}
use Rattle.allocation_core.specs.State.{State}
use Rattle.durable_journal.specs.Files.{IsFileOf}
use Rattle.durable_journal.specs.Journals.{IsJournal}
use Rattle.durable_journal.specs.Kept.{kept_in}
use Rattle.fleet_events.specs.declared.event.Event.{Event}
use Rattle.journal_entries.specs.declared.entry.Entry.{Entry}
use Rattle.sealed_lines.specs.declared.chain.Chain.{Chain}
use Rattle.kept_journal.specs.declared.journal_file.JournalFile.{JournalFile}

-- The bytes are the file of a journal, behind whose last line further ones stand with this digest, if they have any. Its first events lead to the
-- state that a desk was opened with. Behind these it has the desk's: of these entries those that were not refused.
pub record HasJournal (opened : State) (entries : List Entry) (bytes : List ℕ) (last : Option Chain) : Type 0 where
  pub text : List ℕ
  pub first : State
  pub earlier : List Event
  pub file : IsFileOf bytes text last
  pub journal : IsJournal text first (earlier ++ kept_in entries)
  pub leads : state_of first earlier ≡ opened

-- a file has these bytes, where it tells them, and so the journal of a desk with these entries
abbrev pub HasEntries : Bool → State → List Entry → Option (List ℕ) → Option Chain → Type 0
HasEntries tells opened entries bytes last = tells ≡ true → (known : List ℕ) × (bytes ≡ Some known) × HasJournal opened entries known last

-- a device of the kind keeps them
abbrev pub AreKept : {F : Type 0} → Bool → (F → Option (List ℕ)) → State → List Entry → Type 0
AreKept {F} tells kept opened entries = (device : F) × (last : Option Chain) × HasEntries tells opened entries (kept device) last

-- that a device of the kind keeps them means that
abbrev pub MeansKept : {F : Type 0} → Bool → (F → Option (List ℕ)) → State → (List Entry → Type 0) → Type 0
MeansKept tells kept opened keeps = (entries : List Entry) → AreKept tells kept opened entries → keeps entries

-- the file of a journal that leads to a state, unless nothing can be kept in it
abbrev pub IsOf : {F : Type 0} → Bool → (F → Option (List ℕ)) → State → JournalFile F → Type 0
IsOf tells contents m file = file.is_broken ≡ false → HasEntries tells m [] (contents file.file) file.chain

-- that of a service, where there is one
abbrev pub IsOfService : {F : Type 0} → Bool → (F → Option (List ℕ)) → State → Option (JournalFile F) → Type 0
IsOfService tells contents m None = Unit {0}
IsOfService tells contents m (Some file) = IsOf tells contents m file

-- what it is for a desk that entries are kept, where there is a file for them and where there is none
abbrev pub keeps_where : {F : Type 0} → Bool → (F → Option (List ℕ)) → State → Option (JournalFile F) → List Entry → Type 0
keeps_where tells kept opened None entries = Unit {0}
keeps_where tells kept opened (Some file) entries = AreKept tells kept opened entries

abbrev pub MeansKeptWhere : {F : Type 0} → Bool → (F → Option (List ℕ)) → State → Option (JournalFile F) → (List Entry → Type 0) → Type 0
MeansKeptWhere tells kept opened file keeps = (entries : List Entry) → keeps_where tells kept opened file entries → keeps entries
