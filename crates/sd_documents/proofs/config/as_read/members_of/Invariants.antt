use Rattle.std.proofs.Common.{◌≡◌, drop}
use Rattle.serde_json.specs.Data.{no_members}
use Rattle.serde_json.specs.View.{items_view, members_view}
use Rattle.sd_documents.specs.Config.{as_read_from}
use Rattle.sd_documents.proofs.config.as_read.members_of.Given as goal

abbrev pub invariant-loop-entry : goal.invariant-loop-entry
invariant-loop-entry l = as_read_from (members_view l.members.entries) (items_view (drop l.entry-index l.entries)) ≡ as_read_from no_members (items_view l.entries)
