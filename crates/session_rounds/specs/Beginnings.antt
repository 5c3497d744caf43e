-- What a session asks its sources before its rounds, and the lines of those that were refused.
use Rattle.std.specs.Prelude.{◌≡◌, ◌≢◌, ◌+◌, ℕ, zero, suc, List, [], ◌∷◌, ◌++◌, Result, Ok, Err, length, min}
use Rattle.serde_json.specs.View.{items_view}
use Rattle.sd_documents.specs.declared.config.Job.{Job}
use Rattle.relabel.specs.Applying.{rules_said}
use Rattle.relabel.specs.declared.rule.RuleSettings.{RuleSettings}
use Rattle.fleet_events.specs.declared.answer.Answer.{Answer}
use Rattle.fleet_events.specs.declared.event.Event.{Event}
use Rattle.http_get.specs.declared.get.Get.{Get}
use Rattle.http_get.specs.declared.reply.Reply.{Reply}
use Rattle.http_get.specs.declared.reply.FetchFault.{FetchFault}
use Rattle.http_get.specs.declared.error.RefreshError.{RefreshError}
use Rattle.http_get.specs.declared.error.RefreshError.TheVariants.{Memory}
use Rattle.http_get.specs.Discoveries.{refusal_name}
use Rattle.http_get.specs.Refreshing.{Refreshed}
use Rattle.allocation_core.specs.Steps.{gained}
use Rattle.session.specs.Lines.{source_line}

-- no answer to the event books a sample
abbrev pub BooksNothing : Event → Type 0
BooksNothing event = (answer : Answer) → gained event answer ≡ 0

-- how many sources of a job are asked: one for each URL, as far as their numbers go
abbrev pub asked_count : Job → ℕ
asked_count job = min (length job.http_urls) 4294967295

-- a source that was refused has its line
abbrev pub refusal_text : Job → ℕ → Result Event RefreshError → List ℕ
refusal_text job source (Ok event) = []
refusal_text job source (Err refusal) = source_line job.name source (refusal_name refusal)

module _ {S : Type 0} (may : S → Get → Result Reply FetchFault → S → Type 0) where
  -- a source is asked once, and its line is added where it is refused. Memory did not run out
  pub record AskedSource (job : Job) (rules : List RuleSettings) (source : ℕ) (old new : S) (before after : List ℕ) : Type 0 where
    pub result : Result Event RefreshError
    pub refreshed : Refreshed may old new job rules source result
    pub answered : result ≢ Err Memory
    pub text : after ≡ before ++ refusal_text job source result

  -- so many sources from this one on, in order
  abbrev pub AskedSources : Job → List RuleSettings → ℕ → ℕ → S → S → List ℕ → List ℕ → Type 0
  AskedSources job rules source zero old new before after = (new ≡ old) × (after ≡ before)
  AskedSources job rules source (suc more) old new before after =
      (next : S) × (between : List ℕ) × AskedSource job rules source old next before between × AskedSources job rules (source + 1) more next new between after

  -- all sources of a job, by the rules that the job says
  pub record AskedJob (job : Job) (old new : S) (before after : List ℕ) : Type 0 where
    pub rules : List RuleSettings
    pub said : rules_said (items_view job.rules) ≡ Ok rules
    pub asked : AskedSources job rules 1 (asked_count job) old new before after

  -- one job after another
  abbrev pub AskedJobs : List Job → S → S → List ℕ → List ℕ → Type 0
  AskedJobs [] old new before after = (new ≡ old) × (after ≡ before)
  AskedJobs (job ∷ jobs) old new before after =
      (next : S) × (between : List ℕ) × AskedJob job old next before between × AskedJobs jobs next new between after
