-- The visits of a turn: each target is asked, and reported as what came of it.
use Rattle.std.specs.Prelude.{◌≡◌, ◌≢◌, ◌+◌, ℕ, List, Option, Some, None, Result, Ok, Err, All, map, if◌then◌else◌}
use Rattle.std.specs.Option.{option_map}
use Rattle.sd_documents.specs.declared.config.Job.{Job}
use Rattle.scrape_books.specs.Books.{samples_of}
use Rattle.scrape_books.specs.declared.report.Outcome.{Outcome}
use Rattle.http_get.specs.declared.get.Get.{Get}
use Rattle.http_get.specs.declared.reply.Reply.{Reply}
use Rattle.http_get.specs.declared.reply.FetchFault.{FetchFault}
use Rattle.http_get.specs.declared.reply.FetchFault.TheVariants.{Memory}
use Rattle.fleet_events.specs.declared.event.Event.{Event}
use Rattle.fleet_events.specs.declared.event.Event.TheVariants.{Report}
use Rattle.fleet_events.specs.declared.answer.Answer.{Answer}
use Rattle.allocation_core.specs.State.{State}
use Rattle.allocation_core.specs.Steps.{answer_of}
use Rattle.alloc_desk.specs.Counts.{Counts}
use Rattle.alloc_desk.specs.Gains.{is_booked}
use Rattle.alloc_desk.specs.Reached.{Reached}
use Rattle.collector_pool.specs.Fetches.{Fetch, IsRun, IsStep, asked_in, fetched_outcome}
use Rattle.collector_pool.specs.declared.tally.Tally.{Tally}

-- the target was asked as it is to be, or not at all where it can't be asked
abbrev pub IsAsked : State → Counts → List Job → ℕ → Option Fetch → Type 0
IsAsked opening counts jobs target fetched = Reached opening counts (λ h. option_map (λ (f : Fetch). f.get) fetched ≡ asked_in h.state jobs target)

-- memory did not run out
abbrev pub IsAnswered : Option Fetch → Type 0
IsAnswered fetched = option_map (λ (f : Fetch). f.result) fetched ≢ Some (Err Memory)

-- what is found, or that memory ran out, which may be before the target is asked
abbrev pub CameTo : {E : Type 0} → State → Counts → List Job → ℕ → Option Fetch → Result Outcome E → Type 0
CameTo opening counts jobs target fetched (Ok outcome) = IsAsked opening counts jobs target fetched × IsAnswered fetched × (outcome ≡ fetched_outcome fetched)
CameTo opening counts jobs target None (Err e) = Unit {0}
CameTo opening counts jobs target (Some fetch) (Err e) = IsAsked opening counts jobs target (Some fetch)

-- a fetch that is not reported is the next target's
abbrev pub IsUnreported : State → Counts → List Job → Option ℕ → Option Fetch → Type 0
IsUnreported opening counts jobs next None = Unit {0}
IsUnreported opening counts jobs (Some target) (Some fetch) = IsAsked opening counts jobs target (Some fetch)
IsUnreported opening counts jobs None (Some fetch) = ⊥

-- a target, the fetch where it was asked, and the answer to its report
pub record Visit : Type 0 where
  pub target : ℕ
  pub fetched : Option Fetch
  pub answer : Answer

-- the samples that a visit found, and those that it booked
abbrev pub found_by : Visit → ℕ
found_by visit = samples_of (fetched_outcome visit.fetched)

abbrev pub booked_by : Visit → ℕ
booked_by visit = if is_booked visit.answer then found_by visit else 0

module _ (opening : State) (counts : Counts) (jobs : List Job) (collector allocation round : ℕ) where
  -- what the collector reports of a visit
  abbrev pub report_of : Visit → Event
  report_of visit =
      Report (record { collector = collector; allocation = allocation; target = visit.target; round = round; outcome = fetched_outcome visit.fetched })

  -- the target is asked for itself, and what came of it is reported
  pub record IsVisit (visit : Visit) : Type 0 where
    pub asked : IsAsked opening counts jobs visit.target visit.fetched
    pub answered : IsAnswered visit.fetched
    pub reported : Reached opening counts (λ h. visit.answer ≡ answer_of h.state (report_of visit))

  -- these targets are visited in order, each once, and the fetches lead from one state to the other
  pub record AreVisits {S : Type 0} (may : S → Get → Result Reply FetchFault → S → Type 0) (held : List ℕ) (visits : List Visit) (old new : S) : Type 0 where
    pub each : All IsVisit visits
    pub targets : map (λ (v : Visit). v.target) visits ≡ held
    pub run : IsRun may old (map (λ (v : Visit). v.fetched) visits) new

-- one report, booked or refused
abbrev pub IsTally : Answer → Tally → Type 0
IsTally answer tally = (tally.booked ≡ (if is_booked answer then 1 else 0)) × (tally.booked + tally.refused ≡ 1)

-- one visit, by a pass that had the first counts and has the second
pub record Visited {S : Type 0} (may : S → Get → Result Reply FetchFault → S → Type 0) (opening : State) (before after : Counts) (jobs : List Job) (collector allocation round target : ℕ) (old new : S) (tally : Tally) : Type 0 where
  pub visit : Visit
  pub of : visit.target ≡ target
  pub is : IsVisit opening before jobs collector allocation round visit
  pub step : IsStep may old visit.fetched new
  pub tallied : IsTally visit.answer tally
  pub calls : after.calls ≡ before.calls + 1
  pub booked : after.booked ≡ before.booked + booked_by visit
