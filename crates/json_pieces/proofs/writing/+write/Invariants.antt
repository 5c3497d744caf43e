use Rattle.std.proofs.Common.{◌≡◌, ℕ, List, ◌++◌, drop, Some}
use Rattle.json.specs.Json as json
use Rattle.serde_json.specs.Data.{array, object}
use Rattle.serde_json.specs.Read.{of_members}
use Rattle.serde_json.specs.View.{items_view, members_view}
use Rattle.serde_json.proofs.Views.{Entry}
use Rattle.json_pieces.specs.Texts.{WritesValue}
use Rattle.json_pieces.proofs.Steps.{WritesItems, WritesMembers}
use Rattle.json_pieces.proofs.writing.+write.Given as goal

-- whatever text ends the array well from here ends it well behind what was written
abbrev pub invariant-write_items-loop-item : goal.invariant-write_items-loop-item
invariant-write_items-loop-item g l =
    (before : List ℕ) × g.P.Pieces.grows l.fn.out l.out before
    × ((rest : List ℕ) → WritesItems l.is_later (items_view (drop l.item-index l.item-items)) rest → WritesValue (array (items_view l.item-items)) (before ++ rest))

abbrev pub invariant-write_members-loop-name : goal.invariant-write_members-loop-name
invariant-write_members-loop-name g l =
    let all = members_view l.members.entries in
    (before : List ℕ) × g.P.Pieces.grows l.fn.out l.out before × (done : List Entry) × (l.members.entries ≡ done ++ l.name-iterator)
    × ((ms : json.Members) (rest : List ℕ) → WritesMembers l.is_later ms (members_view l.name-iterator) rest → of_members ms (members_view done) ≡ Some all → WritesValue (object all) (before ++ rest))
