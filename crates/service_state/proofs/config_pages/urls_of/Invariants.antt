use Rattle.std.proofs.Common.{◌≡◌, map, take}
use Rattle.sd_documents.specs.declared.config.Job.{Job}
use Rattle.service_state.proofs.config_pages.urls_of.Given as goal

abbrev pub invariant-loop-job : goal.invariant-loop-job
invariant-loop-job l = l.urls ≡ map (λ (j : Job). j.http_urls) (take l.job-index l.jobs)
