-- How many targets of a job a collector may have, where a limit of 0 is no limit.
use Rattle.std.specs.Prelude.{ℕ, ◌≤◌, ◌≢◌, ◌==◌, if◌then◌else◌, min}
use Rattle.reach_rules.specs.OwnLimits.{own_limit}
use Rattle.fleet.specs.declared.job.JobSpec.{JobSpec}
use Rattle.fleet.specs.declared.collector.Collector.{Collector}

-- the lower of two limits
abbrev pub lower_limit : ℕ → ℕ → ℕ
lower_limit limit other = if limit == 0 then other else if other == 0 then limit else min limit other

-- the limit of a collector's share of a job: the lower of the job's limit and the collector's own
abbrev pub share_limit : JobSpec → Collector → ℕ
share_limit job collector = lower_limit job.target_limit (own_limit collector.limits job.name)

-- so many are within a limit
abbrev pub IsWithin : ℕ → ℕ → Type 0
IsWithin count limit = limit ≢ 0 → count ≤ limit
