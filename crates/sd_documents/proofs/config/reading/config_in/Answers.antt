use Rattle.serde_json.specs.View.{view, items_view}
use Rattle.sd_documents.proofs.Within.{are_jobs}
use Rattle.sd_documents.proofs.config.reading.config_in.Goals as goal

pub returns-clause-jobs : goal.returns-clause-jobs
returns-clause-jobs c = are_jobs c.in_ok-jobs.jobs (view c.args.value.now) (items_view c.in_ok-entries.entries.now) c.in_ok-entries.ensures c.in_ok-jobs.ensures
