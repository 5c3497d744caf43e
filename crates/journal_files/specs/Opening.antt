-- The file that is written from the beginning of a service on.
use Rattle.std.specs.Prelude.{◌≡◌, ℕ, List, Bool, Option, None, Some, Result, Ok}
use Rattle.allocation_core.specs.State.{State}
use Rattle.durable_journal.specs.Beginnings.{IsBegunAnew}
use Rattle.durable_journal.specs.declared.beginning.Begun.{Begun}
use Rattle.durable_journal.specs.declared.beginning.FirstLine.{FirstLine}
use Rattle.fleet.specs.declared.job.JobSpec.{JobSpec}
use Rattle.sealed_lines.specs.declared.chain.Chain.{Chain}
use Rattle.journal_files.specs.Starting.{Asked, IsConfigured, Starts}
use Rattle.journal_files.specs.declared.opening.Opened.{Opened}
use Rattle.journal_files.specs.declared.reading.Journal.{Journal}
use Rattle.journal_files.specs.declared.reading.Next.{Next}
use Rattle.journal_files.specs.declared.reading.Next.TheVariants.{Begins, GoesOn, IsReplaced}
use Rattle.journal_files.specs.declared.reading.Past.{Past}
use Rattle.journal_files.specs.declared.reading.Start.{Start}
use Rattle.journal_files.specs.declared.written.Written.{Written}

-- it has just begun with the line
pub record IsBegunWith {D : Type 0} (tells : Bool) (contents : D → Option (List ℕ)) (first : FirstLine) (file : D) (bytes : ℕ) (chain : Option Chain) : Type 0 where
  pub begun : Begun D
  pub form : IsBegunAnew tells contents first begun
  pub file_is : file ≡ begun.file
  pub bytes_is : bytes ≡ begun.bytes
  pub chain_is : chain ≡ Some begun.chain

-- of a journal that goes on: its whole bytes, and the digest of its last line
pub record IsGoneOn (journal : Journal) (bytes : ℕ) (chain : Option Chain) : Type 0 where
  pub bytes_is : bytes ≡ journal.whole
  pub chain_is : chain ≡ journal.chain

-- what is written of a journal of which this is to become
abbrev pub IsNextOf : {D : Type 0} → Bool → (D → Option (List ℕ)) → Journal → Next → D → ℕ → Option Chain → Type 0
IsNextOf tells contents journal (Begins first) file bytes chain = IsBegunWith tells contents first file bytes chain
IsNextOf tells contents journal (GoesOn events) file bytes chain = IsGoneOn journal bytes chain
IsNextOf tells contents journal (IsReplaced first) file bytes chain = IsBegunWith tells contents first file bytes chain

-- the allocator, with what was told of its journal and the file that is written of it
pub record IsOpenedWith {D : Type 0} {E : Type 0} (core : State) (past : Past) (written : Result (Written D) E) (opened : Opened D) : Type 0 where
  pub file : Written D
  pub is_written : written ≡ Ok file
  pub is_opened : opened ≡ record { core = core; epoch = past.epoch; names = past.names; file = Some file.file; bytes = file.bytes; chain = file.chain }

-- the allocator of a start, with the file that its journal asks for
pub record IsBegunAs {D : Type 0} (tells : Bool) (contents : D → Option (List ℕ)) (start : Start) (opened : Opened D) : Type 0 where
  pub core_is : opened.core ≡ start.core
  pub epoch_is : opened.epoch ≡ start.past.epoch
  pub names_are : opened.names ≡ start.past.names
  pub file : D
  pub file_is : opened.file ≡ Some file
  pub next : IsNextOf tells contents start.journal start.journal.next file opened.bytes opened.chain

-- what a text leads to under what is asked, with the file that its journal asks for
pub record IsOpened {D : Type 0} (tells : Bool) (contents : D → Option (List ℕ)) (asked : Asked) (opened : Opened D) : Type 0 where
  pub text : List ℕ
  pub start : Start
  pub starts : Starts asked text start.core start.past.epoch start.journal.next
  pub begun : IsBegunAs tells contents start opened

-- that, where there is a file, and the configuration's own allocator where there is none
abbrev pub IsAllocator : {D : Type 0} → Bool → (D → Option (List ℕ)) → Asked → Opened D → Option D → Type 0
IsAllocator tells contents asked opened None = IsConfigured asked.line opened.core
IsAllocator tells contents asked opened (Some file) = IsOpened tells contents asked opened

abbrev pub AllocatorOf : {D : Type 0} → Bool → (D → Option (List ℕ)) → List ℕ → List JobSpec → Opened D → Type 0
AllocatorOf tells contents line jobs opened = (epoch : ℕ) × IsAllocator tells contents (record { line = line; jobs = jobs; epoch = epoch }) opened opened.file
