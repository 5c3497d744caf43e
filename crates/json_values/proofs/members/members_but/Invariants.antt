use Rattle.std.proofs.Common.{◌≡◌, List, ◌++◌}
use Rattle.serde_json.specs.View.{members_view}
use Rattle.serde_json.proofs.Views.{Entry}
use Rattle.json_values.specs.Members.{members_but}
use Rattle.json_values.proofs.members.members_but.Given as goal

abbrev pub invariant-loop-name : goal.invariant-loop-name
invariant-loop-name g l =
    (done : List Entry) × (l.members.entries ≡ done ++ l.name-iterator) × (members_view l.others.entries ≡ members_but g.L.LeftOut.is_left_out (members_view done))
