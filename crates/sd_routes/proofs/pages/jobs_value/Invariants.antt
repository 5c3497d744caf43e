use Rattle.std.proofs.Common.{◌≡◌, drop}
use Rattle.serde_json.specs.Data.{no_members}
use Rattle.serde_json.specs.View.{members_view}
use Rattle.sd_routes.specs.Pages.{with_jobs}
use Rattle.sd_routes.proofs.pages.jobs_value.Given as goal

abbrev pub invariant-loop-job : goal.invariant-loop-job
invariant-loop-job l = with_jobs (members_view l.members.entries) (drop l.job-index l.jobs) ≡ with_jobs no_members l.jobs
