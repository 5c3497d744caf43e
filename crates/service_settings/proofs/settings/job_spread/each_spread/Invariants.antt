use Rattle.std.proofs.Common.{◌≡◌, ◌++◌, drop, Ok}
use Rattle.serde_json.specs.View.{items_view}
use Rattle.service_settings.specs.Reading.{◌>>=◌, each_from}
use Rattle.service_settings.specs.JobSpread.{job_spread_said}
use Rattle.service_settings.proofs.settings.job_spread.each_spread.Given as goal

abbrev pub invariant-loop-job : goal.invariant-loop-job
invariant-loop-job l = each_from job_spread_said l.job (items_view (drop l.job l.configs)) >>= (λ xs. Ok (l.spreads ++ xs)) ≡ each_from job_spread_said 0 (items_view l.configs)
