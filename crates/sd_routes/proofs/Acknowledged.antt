-- The text of a list with the service itself in front.
use Rattle.std.proofs.Common.{◌≡◌, ℕ, List, [], ◌∷◌, refl, ap, ◌∙◌}
use Rattle.serde_json.specs.Written.{compact_text}
use Rattle.json_values.specs.Spelling.{list_data}
use Rattle.target_shares.specs.declared.numbered_target.NumberedTarget.{NumberedTarget}
use Rattle.sd_routes.specs.Acknowledging.{acknowledged_data, own_group, with_first}
use Rattle.sd_routes.specs.Pages.{group_data}
use Rattle.sd_routes.specs.declared.list_head.ListHead.{ListHead}

before_groups : (at job : List ℕ) (head : ListHead) (targets : List NumberedTarget)
    → with_first (compact_text (own_group at job head)) (compact_text (list_data group_data targets)) ≡ compact_text (acknowledged_data at job head targets)
before_groups at job head [] = refl
before_groups at job head (target ∷ targets) = refl

pub with_own_group : (at job : List ℕ) (head : ListHead) (own groups : List ℕ) (targets : List NumberedTarget)
    → own ≡ compact_text (own_group at job head) → groups ≡ compact_text (list_data group_data targets)
    → with_first own groups ≡ compact_text (acknowledged_data at job head targets)
with_own_group at job head own groups targets is list =
    ap (λ text. with_first text groups) is ∙ ap (with_first (compact_text (own_group at job head))) list ∙ before_groups at job head targets
