-- How targets are fetched, and what is reported of it.
use Rattle.std.specs.Prelude.{◌≡◌, ◌==◌, ℕ, List, [], ◌∷◌, Option, Some, None, Result, Ok, Err, option_and_then, if◌then◌else◌}
use Rattle.label_sets.specs.Target.{FinalTarget}
use Rattle.sd_documents.specs.declared.config.Job.{Job}
use Rattle.scrape_books.specs.Samples.{sample_count, saturated}
use Rattle.scrape_books.specs.declared.report.Outcome.{Outcome}
use Rattle.scrape_books.specs.declared.report.Outcome.TheVariants.{Up, Down}
use Rattle.http_get.specs.Gets.{get_said_in}
use Rattle.http_get.specs.declared.get.Get.{Get}
use Rattle.http_get.specs.declared.reply.Reply.{Reply}
use Rattle.http_get.specs.declared.reply.FetchFault.{FetchFault}
use Rattle.allocation_core.specs.State.{State}
use Rattle.alloc_desk.specs.Views.{target_of}

-- a fetch, and what came of it
pub record Fetch : Type 0 where
  pub get : Get
  pub result : Result Reply FetchFault

-- an answer of status 200 is Up with its samples, and each other is Down
abbrev pub reply_outcome : Reply → Outcome
reply_outcome reply = if reply.status == 200 then Up (saturated (sample_count reply.body)) else Down

abbrev pub result_outcome : Result Reply FetchFault → Outcome
result_outcome (Ok reply) = reply_outcome reply
result_outcome (Err fault) = Down

-- a target that was not asked is Down
abbrev pub fetched_outcome : Option Fetch → Outcome
fetched_outcome None = Down
fetched_outcome (Some fetch) = result_outcome fetch.result

-- a fetch may lead from one state to the other. What was not asked leads nowhere
abbrev pub IsStep : {S : Type 0} → (S → Get → Result Reply FetchFault → S → Type 0) → S → Option Fetch → S → Type 0
IsStep may old None new = new ≡ old
IsStep may old (Some fetch) new = may old fetch.get fetch.result new

-- one after the other
abbrev pub IsRun : {S : Type 0} → (S → Get → Result Reply FetchFault → S → Type 0) → S → List (Option Fetch) → S → Type 0
IsRun may old [] new = new ≡ old
IsRun {S = S} may old (fetched ∷ rest) new = (next : S) × IsStep may old fetched next × IsRun may next rest new

-- how the target of a number is asked: as its labels and its job's parameters say
abbrev pub asked_in : State → List Job → ℕ → Option Get
asked_in m jobs number = option_and_then (λ (t : ℕ × FinalTarget). get_said_in jobs t.0 t.1) (target_of m number)
