use Rattle.std.proofs.Common.{◌≡◌, take, map}
use Rattle.serde_json.specs.View.{view}
use Rattle.serde_json.specs.declared.value.Value.{Value}
use Rattle.file_configs.specs.Sources.{job_with}
use Rattle.file_configs.proofs.sources.jobs_with.Given as goal

abbrev pub invariant-loop-job : goal.invariant-loop-job
invariant-loop-job l = map view l.all.items ≡ map (λ (v : Value). job_with (view v)) (take l.job-index l.jobs)
