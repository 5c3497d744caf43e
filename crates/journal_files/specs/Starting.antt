-- What an allocator begins with: where the lines of its journal lead, under what is asked of it.
use Rattle.std.specs.Prelude.{◌≡◌, ◌<◌, ◌+◌, ◌^◌, ◌==◌, ℕ, List, [], ◌∷◌, take, AllPairs, Bool, true, false, ◌&&◌, map, Option, Some, IfSome, Ok, option_and_then, unwrap_or}
use Rattle.allocation_core.specs.Renewed.{renewed}
use Rattle.allocation_core.specs.State.{State, current_pairs}
use Rattle.durable_journal.specs.Beginnings.{Opens, value_of}
use Rattle.durable_journal.specs.Epochs.{epoch_in, with_epoch}
use Rattle.durable_journal.specs.Marks.{found_in, marked}
use Rattle.durable_journal.specs.declared.beginning.FirstLine.{FirstLine}
use Rattle.durable_journal.specs.declared.recovering.Recovered.TheVariants.{Found}
use Rattle.fleet.specs.declared.job.JobSpec.{JobSpec}
use Rattle.json_values.specs.Texts.{json_of}
use Rattle.replay_lines.specs.Configurations.{opened, same_jobs, spec_of}
use Rattle.replay_lines.specs.Resumes.{resumed, resumption_at}
use Rattle.sd_documents.specs.Config.{job_data}
use Rattle.sealed_lines.specs.Lines.{HasNoFeed, lines_in}
use Rattle.journal_files.specs.Leading.{LeadsTo, has_empty_line}
use Rattle.journal_files.specs.declared.reading.Next.{Next}
use Rattle.journal_files.specs.declared.reading.Next.TheVariants.{Begins, GoesOn, IsReplaced}
use Rattle.journal_files.specs.declared.reading.Start.{Start}
use Rattle.journal_files.specs.declared.reading.Wanted.{Wanted}

-- ---- what is asked

-- the line of a configuration, its jobs, and the epoch of a journal that begins now
pub record Asked : Type 0 where
  pub line : List ℕ
  pub jobs : List JobSpec
  pub epoch : ℕ

abbrev pub asked_by : Wanted → Asked
asked_by wanted = record { line = wanted.line.now; jobs = map spec_of (map job_data wanted.jobs.now); epoch = wanted.epoch }

-- the line opens the state, where it is one line
abbrev pub IsConfigured : List ℕ → State → Type 0
IsConfigured line m = HasNoFeed line → opened line ≡ Some m

-- a state with these jobs, and with reports booked of so many rounds
abbrev pub has_these : State → List JobSpec → ℕ → Bool
has_these m jobs report_rounds = m.report_rounds == report_rounds && same_jobs m.fleet.jobs jobs

-- the jobs and the number of rounds of the state that the line opens
pub record IsMachine (line : List ℕ) (jobs : List JobSpec) (report_rounds : ℕ) : Type 0 where
  pub configured : State
  pub opens : IsConfigured line configured
  pub jobs_are : jobs ≡ configured.fleet.jobs
  pub rounds_are : report_rounds ≡ configured.report_rounds

-- ---- epochs

-- that which the first line says, 0 where it says none
abbrev pub epoch_by : List (List ℕ) → ℕ
epoch_by [] = 0
epoch_by (line ∷ lines) = unwrap_or (epoch_in line) 0

abbrev pub epoch_at : List ℕ → ℕ
epoch_at text = epoch_by (lines_in text)

-- a later one, unless there is none
abbrev pub IsLaterEpoch : ℕ → ℕ → Type 0
IsLaterEpoch last epoch = last + 1 < 2 ^ 64 → last < epoch

-- ---- no line yet

-- the state is that of the configuration's line with the epoch, and the first line says that and opens exactly the state
pub record IsAnew (asked : Asked) (core : State) (epoch : ℕ) (first : FirstLine) : Type 0 where
  pub configured : HasNoFeed asked.line → opened (with_epoch asked.line asked.epoch) ≡ Some core
  pub opens : HasNoFeed asked.line → Opens (Some core) first
  pub says : Some (value_of first) ≡ option_and_then marked (json_of (with_epoch asked.line asked.epoch))
  pub epoch_is : epoch ≡ asked.epoch

abbrev pub BeginsAnew : Asked → State → ℕ → Next → Type 0
BeginsAnew asked core epoch (Begins first) = IsAnew asked core epoch first
BeginsAnew asked core epoch (GoesOn events) = ⊥
BeginsAnew asked core epoch (IsReplaced first) = ⊥

-- ---- behind lines that lead to a state, in an epoch

-- a state as the renewal of a core leaves it, whose current pairs ascend
pub record IsRenewed (m : State) : Type 0 where
  pub before : State
  pub jobs : List JobSpec
  pub ascending : AllPairs (λ (a b : ℕ × ℕ). a.0 < b.0) (current_pairs before)
  pub is : m ≡ renewed before jobs m.report_rounds

-- the first line opens exactly the state, in a later epoch
pub record IsReplacedBy (m : State) (last epoch : ℕ) (first : FirstLine) : Type 0 where
  pub opens : Opens (Some m) first
  pub later : IsLaterEpoch last epoch

abbrev pub ReplacesWith : State → ℕ → State → ℕ → Next → Type 0
ReplacesWith m last core epoch (Begins first) = ⊥
ReplacesWith m last core epoch (GoesOn events) = ⊥
ReplacesWith m last core epoch (IsReplaced first) = (core ≡ m) × IsReplacedBy m last epoch first

-- the renewal of a state under jobs, with reports booked of so many rounds
pub record Renews (m : State) (last : ℕ) (jobs : List JobSpec) (report_rounds : ℕ) (core : State) (epoch : ℕ) (first : FirstLine) : Type 0 where
  pub is : core ≡ renewed m jobs report_rounds
  pub line : IsReplacedBy core last epoch first

abbrev pub RenewsUnder : State → ℕ → List JobSpec → ℕ → State → ℕ → Next → Type 0
RenewsUnder m last jobs report_rounds core epoch (Begins first) = ⊥
RenewsUnder m last jobs report_rounds core epoch (GoesOn events) = ⊥
RenewsUnder m last jobs report_rounds core epoch (IsReplaced first) = Renews m last jobs report_rounds core epoch first

-- it goes on as it is, since it has what is asked
pub record IsSame (asked : Asked) (m : State) (last events : ℕ) (core : State) (epoch count : ℕ) : Type 0 where
  pub core_is : core ≡ m
  pub epoch_is : epoch ≡ last
  pub count_is : count ≡ events
  pub jobs : List JobSpec
  pub report_rounds : ℕ
  pub machine : IsMachine asked.line jobs report_rounds
  pub wanted : has_these m asked.jobs report_rounds ≡ true

-- it is renewed, since it has not what is asked
pub record IsOther (asked : Asked) (m : State) (last : ℕ) (core : State) (epoch : ℕ) (first : FirstLine) : Type 0 where
  pub jobs : List JobSpec
  pub report_rounds : ℕ
  pub machine : IsMachine asked.line jobs report_rounds
  pub unwanted : has_these m asked.jobs report_rounds ≡ false
  pub renews : Renews m last jobs report_rounds core epoch first

abbrev pub GoesBehind : Asked → State → ℕ → ℕ → State → ℕ → Next → Type 0
GoesBehind asked m last events core epoch (Begins first) = ⊥
GoesBehind asked m last events core epoch (GoesOn count) = IsSame asked m last events core epoch count
GoesBehind asked m last events core epoch (IsReplaced first) = IsOther asked m last core epoch first

-- the lines of the text lead there
pub record IsLedOn (asked : Asked) (text : List ℕ) (core : State) (epoch : ℕ) (next : Next) : Type 0 where
  pub state : State
  pub events : ℕ
  pub leads : resumed text ≡ Ok (resumption_at state events)
  pub behind : GoesBehind asked state (epoch_at text) events core epoch next

-- ---- all of it

-- what begins of a text
abbrev pub Starts : Asked → List ℕ → State → ℕ → Next → Type 0
Starts asked [] core epoch next = BeginsAnew asked core epoch next
Starts asked (b ∷ bs) core epoch next = IsLedOn asked (b ∷ bs) core epoch next

-- Where it goes on the whole bytes lead to the core.
abbrev pub GoesOnIn : List ℕ → List ℕ → Start → Next → Type 0
GoesOnIn bytes text start (Begins first) = Unit {0}
GoesOnIn bytes text start (GoesOn events) = has_empty_line text ≡ false → LeadsTo start.core (take start.journal.whole bytes) start.journal.chain
GoesOnIn bytes text start (IsReplaced first) = Unit {0}

-- what begins of a journal, whose bytes are these where they are known
pub record StartsIn (asked : Asked) (known : Option (List ℕ)) (start : Start) : Type 0 where
  pub text : List ℕ
  pub found : IfSome known (λ bytes. found_in bytes ≡ Found text start.journal.chain start.journal.whole start.journal.torn)
  pub starts : Starts asked text start.core start.past.epoch start.journal.next
  pub leads : IfSome known (λ bytes. GoesOnIn bytes text start start.journal.next)
