use Rattle.serde_json.specs.View.{view}
use Rattle.sd_documents.specs.declared.error.Member.TheVariants.{Groups}
use Rattle.sd_documents.specs.declared.group.Group.{Group}
use Rattle.std.proofs.Common.{List}
use Rattle.sd_documents.specs.Groups.{groups_said}
use Rattle.sd_documents.proofs.Told.{groups_told, given_is_told}
use Rattle.sd_documents.proofs.groups.read_groups.Goals as goal

pub returns-clause-not_json : goal.returns-clause-not_json
returns-clause-not_json c =
    let d = view c.in_ok-value.value in
    λ is. absurd (given_is_told (λ (g : List Group). g) c.groups_in.result (groups_said 0 Groups d) c.groups_in.ensures (groups_told 0 Groups d) is)
