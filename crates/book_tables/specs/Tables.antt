-- The table of some journals. Journals are counted from 1, as lines are.
use Rattle.std.specs.Prelude.{◌≡◌, ℕ, ◌+◌, List, [], ◌∷◌, ◌++◌, Bool, true, false, Result, Ok, Err, codes, string_bytes, if◌then◌else◌}
use Rattle.std.specs.Fmt.{decimal}
use Rattle.allocation_core.specs.State.{State}
use Rattle.sealed_lines.specs.Reading.{plain_of}
use Rattle.sealed_lines.specs.declared.unsealing.WrongDigest.{WrongDigest}
use Rattle.replay_lines.specs.Resumes.{resumed}
use Rattle.replay_lines.specs.declared.resuming.Damage.{Damage}
use Rattle.replay_lines.specs.declared.resuming.Resumption.{Resumption}
use Rattle.book_tables.specs.Rows.{rows_from}
use Rattle.book_tables.specs.declared.table.Table.{Table}

-- the lines, and whether each journal is read
pub record Lines : Type 0 where
  pub text : List ℕ
  pub is_whole : Bool

-- the rows of an allocator
abbrev pub rows_table : ℕ → State → Lines
rows_table file m = record { text = rows_from file m.booked m.fleet.jobs 0 m.fleet.known; is_whole = true }

abbrev pub fault_table : ℕ → ℕ → List ℕ → Lines
fault_table file line why =
    record { text = codes "unreadable file=" ++ (decimal file ++ (codes " line=" ++ (decimal line ++ (codes " " ++ (why ++ codes "\n"))))); is_whole = false }

abbrev pub resumed_table : ℕ → Result Resumption Damage → Lines
resumed_table file (Ok end) = rows_table file end.core
resumed_table file (Err damage) = fault_table file damage.line (codes "Unreadable")

-- of a journal without digests
unfoldable pub plain_table : ℕ → List ℕ → Lines
plain_table file journal = resumed_table file (resumed journal)

abbrev pub read_table : ℕ → Result (List ℕ) WrongDigest → Lines
read_table file (Ok journal) = plain_table file journal
read_table file (Err wrong) = fault_table file wrong.line (codes "WrongDigest")

-- of a journal with digests or without
unfoldable pub journal_table : ℕ → List ℕ → Lines
journal_table file journal = read_table file (plain_of journal)

-- behind a journal that is read the others stand, and nothing behind one that is not
abbrev pub behind : Lines → Lines → Lines
behind first others = if first.is_whole then record { text = first.text ++ others.text; is_whole = others.is_whole } else first

-- of these journals, before which there are so many
unfoldable pub table_of : ℕ → List (List ℕ) → Lines
table_of files [] = record { text = []; is_whole = true }
table_of files (journal ∷ journals) = behind (journal_table (files + 1) journal) (table_of (files + 1) journals)

-- the lines were added to a text
pub record Adds (old new : List ℕ) (is_whole : Bool) (lines : Lines) : Type 0 where
  pub text : new ≡ old ++ lines.text
  pub whole : is_whole ≡ lines.is_whole

-- a table has these lines
abbrev pub ByText : Table → Lines → Type 0
ByText table lines = Adds [] (string_bytes table.text) table.is_whole lines
