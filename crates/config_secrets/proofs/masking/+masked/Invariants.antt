use Rattle.std.proofs.Common.{◌≡◌, List, ◌++◌, take, map}
use Rattle.serde_json.specs.View.{view, members_view}
use Rattle.serde_json.specs.declared.value.Value.{Value}
use Rattle.serde_json.proofs.Views.{Entry}
use Rattle.config_secrets.specs.Masked.{masked, masked_members}
use Rattle.config_secrets.proofs.masking.+masked.Given as goal

abbrev pub invariant-masked_items-loop-item : goal.invariant-masked_items-loop-item
invariant-masked_items-loop-item l = map view l.others.items ≡ map (λ (v : Value). masked l.fn.how (view v)) (take l.item-index l.item-items)

abbrev pub invariant-masked_members-loop-key : goal.invariant-masked_members-loop-key
invariant-masked_members-loop-key l =
    (done : List Entry) × (l.members.entries ≡ done ++ l.key-iterator) × (members_view l.others.entries ≡ masked_members l.fn.how (members_view done))
