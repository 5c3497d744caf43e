use Rattle.agent_exchanges.proofs.EntryLemmas.{entries_more}
use Rattle.agent_exchanges.proofs.reports.entry_values.Goals as goal

pub loop-report-preserved : goal.loop-report-preserved
loop-report-preserved c =
    entries_more c.args.reports.now c.loop-report.report-index c.report-item.result c.loop-report.values.items c.push.new.self.items c.in_ok-value.value c.loop-report-test.true c.report-item.is c.in_ok-push.ensures.items c.in_ok-value.ensures c.loop-report.invariant
