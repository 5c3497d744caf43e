use Rattle.std.proofs.Common.{◌≡◌, drop}
use Rattle.serde_json.specs.Data.{no_members}
use Rattle.serde_json.specs.View.{members_view}
use Rattle.sd_routes.specs.CollectorPages.{with_held}
use Rattle.sd_routes.proofs.collector_row.held_value.Given as goal

abbrev pub invariant-loop-share : goal.invariant-loop-share
invariant-loop-share l = with_held (members_view l.members.entries) (drop l.share-index l.held) ≡ with_held no_members l.held
