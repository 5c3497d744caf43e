-- The names of an allocator's jobs.
use Rattle.std.specs.Prelude.{◌≡◌, ℕ, List, map}
use Rattle.fleet.specs.declared.job.JobSpec.{JobSpec}

abbrev pub names_of : List JobSpec → List (List ℕ)
names_of jobs = map (λ (job : JobSpec). job.name) jobs

-- jobs have these names, in order
abbrev pub AreNamed : List (List ℕ) → List JobSpec → Type 0
AreNamed names jobs = names ≡ names_of jobs
