use Rattle.std.proofs.Common.{◌≡◌, take}
use Rattle.serde_json.specs.View.{items_view}
use Rattle.json_values.specs.Spelling.{items_data}
use Rattle.agent_exchanges.specs.Reports.{entry_data}
use Rattle.agent_exchanges.proofs.reports.entry_values.Given as goal

abbrev pub invariant-loop-report : goal.invariant-loop-report
invariant-loop-report l = items_view l.values.items ≡ items_data entry_data (take l.report-index l.reports)
