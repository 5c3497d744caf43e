-- The jobs of a fleet: not too many, each with a name of its own. Limits are by these names.
use Rattle.std.specs.Prelude.{ℕ, List, [], ◌∷◌, ◌++◌, Bool, true, not, ◌&&◌, nat_le, length, Option, map, replicate, slice_get}
use Rattle.std.specs.List.{list_all, list_any, position_from}
use Rattle.std.specs.Option.{option_map_or}
use Rattle.std.specs.Str.{bytes_eq}
use Rattle.reach_rules.specs.OwnLimits.{LimitList}
use Rattle.fleet.specs.declared.job.JobSpec.{JobSpec}
use Rattle.fleet.specs.declared.limits.TheConstants.{MOST_JOBS}

-- one of the jobs has the name
abbrev pub is_job : List JobSpec → List ℕ → Bool
is_job jobs name = list_any (λ (job : JobSpec). bytes_eq job.name name) jobs

-- each job has a name, and none of those before it has the same
abbrev pub are_named : List JobSpec → List JobSpec → Bool
are_named before [] = true
are_named before (job ∷ jobs) = not (bytes_eq job.name []) && not (is_job before job.name) && are_named (before ++ job ∷ []) jobs

abbrev pub are_jobs : List JobSpec → Bool
are_jobs jobs = nat_le (length jobs) MOST_JOBS && are_named [] jobs

-- each limit is for one of the jobs
abbrev pub are_for_jobs : List JobSpec → LimitList → Bool
are_for_jobs jobs limits = list_all (λ (entry : List ℕ × ℕ). is_job jobs entry.0) limits

-- the place of the job of a name
abbrev pub job_named : List JobSpec → List ℕ → Option ℕ
job_named jobs name = position_from (λ (job : JobSpec). bytes_eq job.name name) 0 jobs

-- how many sources the job at a place has
abbrev pub sources_at : List JobSpec → ℕ → ℕ
sources_at jobs job = option_map_or (λ (j : JobSpec). j.sources) (slice_get jobs job) 0

-- for each job and source an empty list
abbrev pub nothing_listed : List JobSpec → List (List (List ℕ))
nothing_listed jobs = map (λ (job : JobSpec). replicate job.sources []) jobs
