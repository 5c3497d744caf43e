use Rattle.std.proofs.Common.{◌≡◌, ◌++◌, drop}
use Rattle.serde_json.specs.View.{items_view}
use Rattle.config_members.specs.Unread.{each_job}
use Rattle.config_members.proofs.unread.add_jobs.Given as goal

abbrev pub invariant-loop-job : goal.invariant-loop-job
invariant-loop-job l = l.found ++ each_job l.job (items_view (drop l.job l.jobs)) ≡ l.initial.found ++ each_job 0 (items_view l.jobs)
