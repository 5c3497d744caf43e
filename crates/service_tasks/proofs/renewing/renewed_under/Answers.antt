use Rattle.service_tasks.proofs.Renewals.{is_renewed}
use Rattle.service_tasks.proofs.renewing.renewed_under.Goals as goal

pub begin_journal-requires : goal.begin_journal-requires
begin_journal-requires g c = is_renewed c.args.core c.in-Ok.renewed.core c.args.jobs.items c.args.report_rounds c.allocation-pairs.result.now c.allocation-pairs.ensures.pairs c.allocation-pairs.ensures.ascending c.in-Ok.ensures.renewed
