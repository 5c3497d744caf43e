use Rattle.std.proofs.Common.{◌≡◌}
use Rattle.serde_json.specs.View.{members_view}
use Rattle.sd_documents.specs.Config.{unsupported_in}
use Rattle.sd_documents.proofs.config.discovery.unsupported_in.Given as goal

abbrev pub invariant-loop-name : goal.invariant-loop-name
invariant-loop-name l = unsupported_in (members_view l.name-iterator) ≡ unsupported_in (members_view l.members.entries)
