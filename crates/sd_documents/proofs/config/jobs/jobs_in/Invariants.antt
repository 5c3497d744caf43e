use Rattle.std.proofs.Common.{◌≡◌, [], drop, map}
use Rattle.serde_json.specs.View.{items_view}
use Rattle.sd_documents.specs.Config.{job_data, jobs_from}
use Rattle.sd_documents.proofs.config.jobs.jobs_in.Given as goal

abbrev pub invariant-loop-index : goal.invariant-loop-index
invariant-loop-index l = jobs_from l.index (map job_data l.jobs) (items_view (drop l.index l.entries)) ≡ jobs_from 0 [] (items_view l.entries)
