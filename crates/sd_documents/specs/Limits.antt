-- What holds of every configuration that is read.
use Rattle.std.specs.Prelude.{◌≤◌, ℕ, List, [], ◌∷◌, ◌++◌, length, map, sum_by, All, IsTrue, Bool, true, not, ◌&&◌}
use Rattle.std.specs.List.{list_any}
use Rattle.std.specs.Str.{bytes_eq}
use Rattle.sd_documents.specs.declared.limits.TheConstants.{MOST_JOBS, MOST_URLS, MOST_RULES, MOST_TARGETS}
use Rattle.sd_documents.specs.declared.group.Group.{Group}
use Rattle.sd_documents.specs.declared.config.Job.{Job}

-- each name has a byte, and comes after no equal one
abbrev pub are_new : List (List ℕ) → List (List ℕ) → Bool
are_new before [] = true
are_new before (name ∷ names) = not (bytes_eq name []) && not (list_any (λ other. bytes_eq other name) before) && are_new (before ++ name ∷ []) names

pub record IsWithinLimits (job : Job) : Type 0 where
  pub targets : sum_by (λ (group : Group). length group.targets) job.static_groups ≤ MOST_TARGETS
  pub urls : length job.http_urls ≤ MOST_URLS
  pub rules : length job.rules ≤ MOST_RULES

-- not too many jobs, each with a name of its own
pub record AreJobs (jobs : List Job) : Type 0 where
  pub few : length jobs ≤ MOST_JOBS
  pub named : IsTrue (are_new [] (map (λ (job : Job). job.name) jobs))
  pub within : All IsWithinLimits jobs
