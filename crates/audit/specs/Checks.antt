-- What is wrong with a journal that follows a state: its first line is to open the renewal of that state under the line's own jobs,
-- and each further line is to be empty or an event. The first fault in order of lines counts.
use Rattle.std.specs.Prelude.{ℕ, ◌==◌, List, [], ◌∷◌, Bool, if◌then◌else◌, Option, Some, None, option_map, Result, Ok, Err}
use Rattle.std.specs.Option.{option_map_or}
use Rattle.std.specs.Str.{bytes_eq}
use Rattle.allocation_core.specs.Renewed.{renewal_refusal, renewed}
use Rattle.allocation_core.specs.State.{State}
use Rattle.allocation_core.specs.declared.renewal.RenewalError.{RenewalError}
use Rattle.allocation_core.specs.declared.renewal.RenewalError.TheVariants as renewal
use Rattle.core_history.specs.History.{history_text}
use Rattle.sealed_lines.specs.Reading.{plain_of}
use Rattle.sealed_lines.specs.declared.unsealing.WrongDigest as unsealing
use Rattle.replay_lines.specs.Resumes.{resumed}
use Rattle.replay_lines.specs.declared.resuming.Damage.{Damage}
use Rattle.replay_lines.specs.declared.resuming.Resumption.{Resumption}
use Rattle.audit.specs.declared.fault.Fault.{Fault}
use Rattle.audit.specs.declared.fault.Why.{Why}
use Rattle.audit.specs.declared.fault.Why.TheVariants.{Unreadable, WrongDigest, BadJobs, TooManyBins, RoundsSpent, OtherState}

-- the bytes before the first line feed
abbrev pub first_line : List ℕ → List ℕ
first_line [] = []
first_line (b ∷ bs) = if b == 10 then [] else b ∷ first_line bs

abbrev pub fault_at : ℕ → Why → Fault
fault_at line why = record { line = line; why = why }

abbrev pub unreadable : Damage → Fault
unreadable damage = fault_at damage.line Unreadable

-- ---- a renewal

-- both are written as the same history
unfoldable pub same_history : State → State → Bool
same_history m n = bytes_eq (history_text m) (history_text n)

abbrev pub refused_why : RenewalError → Option Why
refused_why renewal.BadJobs = Some BadJobs
refused_why renewal.TooManyBins = Some TooManyBins
refused_why renewal.RoundsSpent = Some RoundsSpent
refused_why renewal.Memory = None

-- why the state n is not the renewal of m
abbrev pub renewal_fault_by : Option RenewalError → State → State → Option Why
renewal_fault_by None m n = if same_history (renewed m n.fleet.jobs n.report_rounds) n then None else Some OtherState
renewal_fault_by (Some refusal) m n = refused_why refusal

-- under the jobs of n
unfoldable pub renewal_fault : State → State → Option Why
renewal_fault m n = renewal_fault_by (renewal_refusal m n.fleet.jobs) m n

-- ---- the first line

abbrev pub begins : State → State → Option Fault
begins m n = option_map (fault_at 1) (renewal_fault m n)

abbrev pub first_fault_by : State → Result Resumption Damage → Option Fault
first_fault_by m (Ok start) = begins m start.core
first_fault_by m (Err damage) = Some (unreadable damage)

-- what is wrong with a first line, by the state that it opens alone
unfoldable pub first_fault : State → List ℕ → Option Fault
first_fault m journal = first_fault_by m (resumed (first_line journal))

-- the first journal may begin with any state
abbrev pub first_fault_of : Option State → List ℕ → Option Fault
first_fault_of None journal = None
first_fault_of (Some m) journal = first_fault m journal

-- ---- all lines

abbrev pub read_as : Result Resumption Damage → Result Resumption Fault
read_as (Ok resumption) = Ok resumption
read_as (Err damage) = Err (unreadable damage)

-- what a journal leads to, or its first fault
unfoldable pub checked : Option State → List ℕ → Result Resumption Fault
checked before journal = option_map_or (λ fault. Err fault) (first_fault_of before journal) (read_as (resumed journal))

-- ---- as a file has it, with digests or without

abbrev pub wrong_digest : unsealing.WrongDigest → Fault
wrong_digest wrong = fault_at wrong.line WrongDigest

abbrev pub checked_as : Option State → Result (List ℕ) unsealing.WrongDigest → Result Resumption Fault
checked_as before (Ok journal) = checked before journal
checked_as before (Err wrong) = Err (wrong_digest wrong)

-- what the journal of a file leads to, or its first fault: a wrong digest comes before all others
unfoldable pub file_checked : Option State → List ℕ → Result Resumption Fault
file_checked before file = checked_as before (plain_of file)
