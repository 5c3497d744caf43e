use Rattle.std.proofs.Common.{◌≡◌, drop}
use Rattle.serde_json.specs.Data.{no_members}
use Rattle.serde_json.specs.View.{members_view}
use Rattle.sd_routes.specs.Pages.{with_shares}
use Rattle.sd_routes.proofs.pages.shares_value.Given as goal

abbrev pub invariant-loop-share : goal.invariant-loop-share
invariant-loop-share l = with_shares l.job (members_view l.members.entries) (drop l.share-index l.shares) ≡ with_shares l.job no_members l.shares
