use Rattle.std.proofs.Common.{◌≡◌, map, take}
use Rattle.sd_documents.specs.declared.config.Job.{Job}
use Rattle.service_state.proofs.config_pages.names_of.Given as goal

abbrev pub invariant-loop-job : goal.invariant-loop-job
invariant-loop-job l = l.names ≡ map (λ (j : Job). j.name) (take l.job-index l.jobs)
