use Rattle.std.proofs.Common.{◌≡◌, ◌++◌, drop, option_map}
use Rattle.serde_json.specs.View.{items_view}
use Rattle.sd_routes.specs.ReportLists.{entries_in}
use Rattle.sd_routes.proofs.report_list.each_entry.Given as goal

abbrev pub invariant-loop-entry : goal.invariant-loop-entry
invariant-loop-entry l =
    option_map (λ xs. l.events ++ xs) (entries_in l.shared.collector l.shared.allocation l.shared.round (items_view (drop l.entry-index l.entries)))
    ≡ entries_in l.shared.collector l.shared.allocation l.shared.round (items_view l.entries)
