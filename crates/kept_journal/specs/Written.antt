-- What of a desk's journal is written, and what is not yet.
use Rattle.std.specs.Prelude.{◌≡◌, List, ◌++◌, length, Option}
use mathlib.Core.List.{IsPrefix}
use Rattle.durable_journal.specs.Events.{AreSaid, event_lines}
use Rattle.durable_journal.specs.Files.{bytes_of, chain_past}
use Rattle.durable_journal.specs.Kept.{kept_in}
use Rattle.journal_entries.specs.declared.entry.Entry.{Entry}
use Rattle.sealed_lines.specs.declared.chain.Chain.{Chain}
use Rattle.kept_journal.specs.declared.news.News.{News}

-- the entries whose lines are in the file, what was seen of the journal, and the digest of the file's last line
pub record Written : Type 0 where
  pub entries : List Entry
  pub seen : List Entry
  pub chain : Option Chain

-- the lines are those of entries, behind a line with this digest
pub record AreLinesOf (chain : Option Chain) (entries : List Entry) (news : News) : Type 0 where
  pub said : AreSaid (kept_in entries)
  pub count : news.entries ≡ length entries
  pub bytes : news.lines.bytes ≡ bytes_of chain (event_lines (kept_in entries))
  pub last : news.lines.chain ≡ chain_past chain (event_lines (kept_in entries))

-- the lines are those of the entries that come next
pub record AreNews (written : Written) (news : News) : Type 0 where
  pub these : List Entry
  pub next : IsPrefix (written.entries ++ these) written.seen
  pub lines : AreLinesOf written.chain these news
