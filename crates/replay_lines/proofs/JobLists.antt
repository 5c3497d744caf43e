-- Lists of jobs that are the same are of one length.
use Rattle.std.proofs.Common.{◌≡◌, ◌≢◌, suc, Bool, true, false, List, [], ◌∷◌, length, map, refl, ap, ◌∙◌}
use Rattle.std.proofs.lemmas.List.{length-map}
use Rattle.std.proofs.lemmas.Bool.{and_parts}
use Rattle.sd_documents.specs.Config.{job_data}
use Rattle.sd_documents.specs.declared.config.Job.{Job}
use Rattle.fleet.specs.declared.job.JobSpec.{JobSpec}
use Rattle.replay_lines.specs.Configurations.{same_job, same_jobs, spec_of}

not_true : (b : Bool) → (b ≡ true → ⊥) → b ≡ false
not_true true h = absurd (h refl)
not_true false h = refl

same_lengths : (jobs others : List JobSpec) → same_jobs jobs others ≡ true → length jobs ≡ length others
same_lengths [] [] e = refl
same_lengths [] (other ∷ others) e = cc
same_lengths (job ∷ jobs) [] e = cc
same_lengths (job ∷ jobs) (other ∷ others) e = ap suc (same_lengths jobs others (and_parts (same_job job other) (same_jobs jobs others) e).1)

pub other_lengths : (jobs others : List JobSpec) → length jobs ≢ length others → same_jobs jobs others ≡ false
other_lengths jobs others h = not_true (same_jobs jobs others) (λ e. h (same_lengths jobs others e))

-- the same of jobs of a configuration
pub other_lengths_of : (specs : List JobSpec) (jobs : List Job) → length specs ≢ length jobs → same_jobs specs (map spec_of (map job_data jobs)) ≡ false
other_lengths_of specs jobs h = other_lengths specs (map spec_of (map job_data jobs)) (λ e. h (e ∙ length-map (map job_data jobs) spec_of ∙ length-map jobs job_data))
