-- A list as a collector was told it.
use Rattle.std.specs.Prelude.{ℕ, List}
use Rattle.journal_entries.specs.declared.entry.Entry.{Entry as Line}
use Rattle.sd_routes.specs.declared.list_head.ListHead.{ListHead}

-- the place and the name of the job, the collector's name, the head, the text of the groups, and what had been seen of the journal
pub record Telling : Type 0 where
  pub place : ℕ
  pub job : List ℕ
  pub name : List ℕ
  pub head : ListHead
  pub groups : List ℕ
  pub seen : List Line
