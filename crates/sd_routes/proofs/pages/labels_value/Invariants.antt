use Rattle.std.proofs.Common.{◌≡◌, drop}
use Rattle.serde_json.specs.Data.{no_members}
use Rattle.serde_json.specs.View.{members_view}
use Rattle.sd_routes.specs.Pages.{with_labels}
use Rattle.sd_routes.proofs.pages.labels_value.Given as goal

abbrev pub invariant-loop-label : goal.invariant-loop-label
invariant-loop-label l = with_labels (members_view l.members.entries) (drop l.label-index l.labels) ≡ with_labels no_members l.labels
