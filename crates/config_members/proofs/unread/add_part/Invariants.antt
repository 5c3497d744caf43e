use Rattle.std.proofs.Common.{◌≡◌, ◌++◌, drop}
use Rattle.serde_json.specs.View.{items_view}
use Rattle.config_members.specs.Unread.{each_entry}
use Rattle.config_members.proofs.unread.add_part.Given as goal

abbrev pub invariant-loop-entry : goal.invariant-loop-entry
invariant-loop-entry l = l.found ++ each_entry l.job l.part l.entry (items_view (drop l.entry l.entries)) ≡ l.initial.found ++ each_entry l.job l.part 0 (items_view l.entries)
