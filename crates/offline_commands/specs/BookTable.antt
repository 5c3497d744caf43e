-- What `allocd books` writes of some journals.
use Rattle.std.specs.Prelude.{◌⊎◌, ℕ, List, Bool, Option, if◌then◌else◌}
use Rattle.book_tables.specs.Tables.{table_of}
use Rattle.offline_commands.specs.Ending.{stop_line}
use Rattle.offline_commands.specs.Writing.{IsWritten}
use Rattle.offline_commands.specs.declared.ending.Ending.{Ending}
use Rattle.offline_commands.specs.declared.ending.Ending.TheVariants.{Answered, Stopped}
use Rattle.offline_commands.specs.declared.ending.Status.{Status}
use Rattle.offline_commands.specs.declared.ending.Status.TheVariants.{Done, Unreadable}
use Rattle.offline_commands.specs.declared.ending.Stop.TheVariants.{Memory}

abbrev pub table_status : Bool → Status
table_status is_whole = if is_whole then Done else Unreadable

-- the whole table, or the line `memory` alone
abbrev pub TellsBooks : List (List ℕ) → Option (List ℕ) → Option (List ℕ) → Ending → Type 0
TellsBooks journals before after ending =
    IsWritten (Answered (table_status (table_of 0 journals).is_whole)) (table_of 0 journals).text before after ending
    ⊎ IsWritten (Stopped Memory) (stop_line Memory) before after ending
