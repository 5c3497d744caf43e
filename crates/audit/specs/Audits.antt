-- What an audit writes: a line for each journal, and then a line of the whole; at the first journal with a fault, its fault and
-- nothing after it. Journals are counted from 1, as lines are.
use Rattle.std.specs.Prelude.{◌≡◌, ℕ, ◌+◌, ◌-◌, ◌^◌, min, length, List, [], ◌∷◌, ◌++◌, Option, Some, None, Result, Ok, Err, codes}
use Rattle.std.specs.Fmt.{decimal}
use Rattle.scrape_books.specs.Books.{total_of}
use Rattle.allocation_core.specs.State.{State, current_of}
use Rattle.replay_lines.specs.declared.resuming.Resumption.{Resumption}
use Rattle.audit.specs.Checks.{file_checked}
use Rattle.audit.specs.Tallies.{uncovered}
use Rattle.audit.specs.declared.auditing.Audited.{Audited}
use Rattle.audit.specs.declared.auditing.Progress.{Progress}
use Rattle.audit.specs.declared.auditing.Audited.TheVariants.{Consistent, Inconsistent}
use Rattle.audit.specs.declared.fault.Fault.{Fault}
use Rattle.audit.specs.declared.fault.Why.{Why}
use Rattle.audit.specs.declared.fault.Why.TheVariants.{Unreadable, WrongDigest, BadJobs, TooManyBins, RoundsSpent, OtherState}

-- a text, and what was found
pub record Report : Type 0 where
  pub text : List ℕ
  pub audited : Audited

-- ---- the lines

-- how many events a journal has, and the number of the last allocation
abbrev pub events_part : ℕ → ℕ → ℕ → List ℕ
events_part file events allocations = codes "file=" ++ (decimal file ++ (codes " events=" ++ (decimal events ++ (codes " allocations=" ++ decimal allocations))))

-- what is booked, and how many live targets nobody holds
abbrev pub books_part : ℕ → ℕ → ℕ → List ℕ
books_part booked total uncovered = codes " booked=" ++ (decimal booked ++ (codes " total=" ++ (decimal total ++ (codes " uncovered=" ++ (decimal uncovered ++ codes "\n")))))

-- of a journal: how many events it has, and the state in which it ends
abbrev pub journal_line : ℕ → Resumption → List ℕ
journal_line file end = events_part file end.events (current_of end.core) ++ books_part (length end.core.booked) (total_of end.core.booked) (uncovered end.core)

abbrev pub why_name : Why → List ℕ
why_name Unreadable = codes "Unreadable"
why_name WrongDigest = codes "WrongDigest"
why_name BadJobs = codes "BadJobs"
why_name TooManyBins = codes "TooManyBins"
why_name RoundsSpent = codes "RoundsSpent"
why_name OtherState = codes "OtherState"

abbrev pub fault_line : ℕ → Fault → List ℕ
fault_line file fault = codes "inconsistent file=" ++ (decimal file ++ (codes " line=" ++ (decimal fault.line ++ (codes " " ++ (why_name fault.why ++ codes "\n")))))

abbrev pub whole_line : ℕ → ℕ → ℕ → List ℕ
whole_line files events total = codes "consistent files=" ++ (decimal files ++ (codes " events=" ++ (decimal events ++ (codes " total=" ++ (decimal total ++ codes "\n")))))

-- ---- all of them

-- sums, at most the greatest number of their width
abbrev pub events_and : ℕ → ℕ → ℕ
events_and sum more = min (sum + more) (2 ^ 64 - 1)

abbrev pub total_and : ℕ → ℕ → ℕ
total_and sum more = min (sum + more) (2 ^ 128 - 1)

abbrev pub behind : List ℕ → Report → Report
behind line rest = record { text = line ++ rest.text; audited = rest.audited }

abbrev pub consistent : ℕ → ℕ → ℕ → Report
consistent files events total = record { text = whole_line files events total; audited = Consistent }

abbrev pub inconsistent : ℕ → Fault → Report
inconsistent file fault = record { text = fault_line file fault; audited = Inconsistent }

abbrev pub by_journal : ℕ → Result Resumption Fault → (Resumption → Report) → Report
by_journal file (Ok end) rest = behind (journal_line file end) (rest end)
by_journal file (Err fault) rest = inconsistent file fault

-- what is written behind so many journals with these sums, where the last of them ended in this state
unfoldable pub report_from : ℕ → Option State → ℕ → ℕ → List (List ℕ) → Report
report_from files before events total [] = consistent files events total
report_from files before events total (journal ∷ journals) =
    by_journal (files + 1) (file_checked before journal) (λ end. report_from (files + 1) (Some end.core) (events_and events end.events) (total_and total (total_of end.core.booked)) journals)

unfoldable pub report_of : List (List ℕ) → Report
report_of journals = report_from 0 None 0 0 journals

-- ---- as a loop over the journals meets them

abbrev pub checked_text : ℕ → Result Resumption Fault → List ℕ
checked_text file (Ok end) = journal_line file end
checked_text file (Err fault) = fault_line file fault

abbrev pub progress_past : Progress → Result Resumption Fault → Progress
progress_past p (Ok end) = record { before = Some end.core; events = events_and p.events end.events; total = total_and p.total (total_of end.core.booked) }
progress_past p (Err fault) = record p { before = None }

-- what is left to write behind so many journals
abbrev pub report_on : ℕ → Progress → List (List ℕ) → Report
report_on files p journals = report_from files p.before p.events p.total journals

-- What was written and what is left make up the whole.
pub record IsAhead (whole left : Report) (old new : List ℕ) : Type 0 where
  pub front : List ℕ
  pub text : whole.text ≡ front ++ left.text
  pub added : new ≡ old ++ front
  pub audited : whole.audited ≡ left.audited
