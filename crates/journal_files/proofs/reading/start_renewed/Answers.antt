use Rattle.journal_files.proofs.Starts.{is_renewed, renews_under}
use Rattle.journal_files.proofs.reading.start_renewed.Goals as goal

pub replaced-requires : goal.replaced-requires
replaced-requires c =
    is_renewed c.args.core c.in-Ok.renewed.core c.args.jobs.items c.args.report_rounds c.allocation-pairs.result.now c.allocation-pairs.ensures.pairs c.allocation-pairs.ensures.ascending c.in-Ok.ensures.renewed

pub returns-in-Ok : goal.returns-in-Ok
returns-in-Ok c =
    renews_under c.replaced.result c.args.core c.in-Ok.renewed.core c.args.past.epoch c.args.jobs.items c.args.report_rounds c.in-Ok.ensures.renewed c.replaced.ensures
