-- The file of a journal that has just begun.
use Rattle.std.specs.Prelude.{ℕ, List, Bool, Option, Some}
use Rattle.allocation_core.specs.State.{State}
use Rattle.durable_journal.specs.Beginnings.{IsBegunAnew, Opens}
use Rattle.durable_journal.specs.declared.beginning.Begun.{Begun}
use Rattle.durable_journal.specs.declared.beginning.FirstLine.{FirstLine}
use Rattle.kept_journal.specs.Keeping.{IsOf}
use Rattle.kept_journal.specs.declared.journal_file.JournalFile.{JournalFile}

-- it leads to the state that its first line opens, where that line stands alone in it
abbrev pub Leads : {F : Type 0} → Bool → (F → Option (List ℕ)) → Begun F → JournalFile F → Type 0
Leads tells contents begun file = (first : FirstLine) (m : State) → IsBegunAnew tells contents first begun → Opens (Some m) first → IsOf tells contents m file
