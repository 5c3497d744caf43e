use Rattle.std.proofs.Common.{List, map, ap, ◌∙◌, arith}
use Rattle.std.proofs.lemmas.List.{take_all}
use Rattle.serde_json.specs.View.{view, items_of}
use Rattle.serde_json.specs.declared.value.Value.{Value}
use Rattle.file_configs.specs.Sources.{job_with}
use Rattle.file_configs.proofs.InOrder.{jobs_in_order}
use Rattle.file_configs.proofs.sources.jobs_with.Goals as goal

pub returns : goal.returns
returns c =
    let jobs = c.args.jobs.now in
    ap items_of c.loop-job.invariant
    ∙ ap (λ (vs : List Value). items_of (map (λ (v : Value). job_with (view v)) vs)) (take_all c.loop-job.job-index jobs (omega arith))
    ∙ jobs_in_order jobs
