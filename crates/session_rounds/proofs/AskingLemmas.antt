-- Sources and jobs that are asked, one after another.
use Rattle.std.proofs.Common.{◌≡◌, ℕ, suc, ◌+◌, ◌-◌, ◌<◌, List, drop, get_or, length, sym, subst, arith}
use Rattle.std.specs.Prelude.{Result}
use Rattle.std.proofs.Math.Seq.{drop-cons}
use Rattle.sd_documents.specs.declared.config.Job.{Job}
use Rattle.relabel.specs.declared.rule.RuleSettings.{RuleSettings}
use Rattle.http_get.specs.declared.get.Get.{Get}
use Rattle.http_get.specs.declared.reply.Reply.{Reply}
use Rattle.http_get.specs.declared.reply.FetchFault.{FetchFault}
use Rattle.session_rounds.specs.Beginnings.{AskedJob, AskedJobs, AskedSource, AskedSources}

module _ {S : Type 0} (may : S → Get → Result Reply FetchFault → S → Type 0) (job : Job) (rules : List RuleSettings) where
  -- one source, and those behind it
  pub source_then :
      (index count source : ℕ) (old next new : S) (before between after : List ℕ) → index < count → source ≡ 1 + index
      → AskedSource may job rules source old next before between → AskedSources may job rules (1 + (index + 1)) (count - (index + 1)) next new between after
      → AskedSources may job rules (1 + index) (count - index) old new before after
  source_then index count source old next new before between after below is asked rest =
      let more : suc (count - (index + 1)) ≡ count - index = omega arith in
      let number : 1 + (index + 1) ≡ (1 + index) + 1 = omega arith in
      let A : ℕ → Type 0 = λ n. AskedSource may job rules n old next before between in
      let B : ℕ → Type 0 = λ n. AskedSources may job rules n (count - (index + 1)) next new between after in
      let C : ℕ → Type 0 = λ n. AskedSources may job rules (1 + index) n old new before after in
      subst C more (next, between, subst A is asked, subst B number rest)

module _ {S : Type 0} (may : S → Get → Result Reply FetchFault → S → Type 0) where
  -- one job, and those behind it
  pub job_then :
      (jobs : List Job) (index : ℕ) (job : Job) (old next new : S) (before between after : List ℕ) → index < length jobs → job ≡ get_or jobs index job
      → AskedJob may job old next before between → AskedJobs may (drop (index + 1) jobs) next new between after → AskedJobs may (drop index jobs) old new before after
  job_then jobs index job old next new before between after below at asked rest =
      let step : index + 1 ≡ suc index = omega arith in
      let A : Job → Type 0 = λ j. AskedJob may j old next before between in
      let B : ℕ → Type 0 = λ n. AskedJobs may (drop n jobs) next new between after in
      let C : List Job → Type 0 = λ js. AskedJobs may js old new before after in
      subst C (sym (drop-cons jobs index job below)) (next, between, subst A at asked, subst B step rest)
