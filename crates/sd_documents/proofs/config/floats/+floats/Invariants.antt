use Rattle.std.proofs.Common.{◌≡◌, drop}
use Rattle.serde_json.specs.View.{items_view, members_view}
use Rattle.serde_json.specs.Written.{items_have_float, members_have_float}
use Rattle.sd_documents.proofs.config.floats.+floats.Given as goal

abbrev pub invariant-any_holds_float-loop-item : goal.invariant-any_holds_float-loop-item
invariant-any_holds_float-loop-item l = items_have_float (items_view (drop l.item-index l.item-items)) ≡ items_have_float (items_view l.item-items)

abbrev pub invariant-any_member_holds_float-loop-name : goal.invariant-any_member_holds_float-loop-name
invariant-any_member_holds_float-loop-name l = members_have_float (members_view l._name-iterator) ≡ members_have_float (members_view l.members.entries)
