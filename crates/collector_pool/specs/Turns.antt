-- What a collector's turn is.
use Rattle.std.specs.Prelude.{◌≡◌, ◌≢◌, ◌≤◌, ◌+◌, ◌⊎◌, ℕ, List, Option, Result, length, take, slice_get, sum_by, count_by, IsSomeAnd}
use Rattle.sd_documents.specs.declared.config.Job.{Job}
use Rattle.http_get.specs.declared.get.Get.{Get}
use Rattle.http_get.specs.declared.reply.Reply.{Reply}
use Rattle.http_get.specs.declared.reply.FetchFault.{FetchFault}
use Rattle.fleet_events.specs.declared.event.Event.TheVariants.{Take}
use Rattle.fleet_events.specs.declared.answer.Answer.{Answer}
use Rattle.fleet_events.specs.declared.answer.Answer.TheVariants.{Taken, Not}
use Rattle.fleet_events.specs.declared.refusal.Refusal.TheVariants.{UnknownCollector}
use Rattle.allocation_core.specs.State.{State}
use Rattle.allocation_core.specs.Steps.{answer_of}
use Rattle.alloc_desk.specs.Counts.{Counts}
use Rattle.alloc_desk.specs.Gains.{is_booked}
use Rattle.alloc_desk.specs.Reached.{IsFull, Reached}
use Rattle.collector_pool.specs.Fetches.{Fetch, IsStep}
use Rattle.collector_pool.specs.Visits.{AreVisits, IsUnreported, Visit, booked_by, found_by}
use Rattle.collector_pool.specs.declared.turn.Turn.{Turn}
use Rattle.collector_pool.specs.declared.turn.TurnEnd.TheVariants.{Complete, NotJoined, JournalFull, Memory}

-- the visits of a turn that took these targets, by a pass that has these counts then: the first so many targets are visited,
-- and where the turn ended before its last target, one more may have been fetched
pub record Worked {S : Type 0} (may : S → Get → Result Reply FetchFault → S → Type 0) (opening : State) (counts : Counts) (jobs : List Job) (collector round : ℕ) (held : List ℕ) (old new : S) (turn : Turn) : Type 0 where
  pub visits : List Visit
  pub then : S
  pub visited : AreVisits opening counts jobs collector turn.number round may (take (turn.booked + turn.refused) held) visits old then
  pub last : Option Fetch
  pub unreported : IsUnreported opening counts jobs (slice_get held (turn.booked + turn.refused)) last
  pub step : IsStep may then last new
  pub booked : turn.booked ≡ count_by (λ (v : Visit). is_booked v.answer) visits
  pub samples : turn.samples ≡ sum_by booked_by visits
  -- no sample that was not fetched, and all of them where no report is refused
  pub found : turn.samples ≤ sum_by found_by visits
  pub all_found : turn.refused ≡ 0 → turn.samples ≡ sum_by found_by visits
  pub most : turn.booked + turn.refused ≤ length held
  pub complete : turn.end ≡ Complete → turn.booked + turn.refused ≡ length held
  pub end : turn.end ≢ NotJoined

-- some legal journal, with at least what the pass did, gives this answer to the Take
abbrev pub IsTakeAnswer : State → Counts → ℕ → Answer → Type 0
IsTakeAnswer opening counts id answer = Reached opening counts (λ h. answer ≡ answer_of h.state (Take id))

-- the counts of the pass once the Take is entered
abbrev pub after_take : Counts → Counts
after_take counts = record { seat = counts.seat; calls = counts.calls + 1; booked = counts.booked }

-- a turn that took an allocation
pub record Took {S : Type 0} (may : S → Get → Result Reply FetchFault → S → Type 0) (opening : State) (before after : Counts) (jobs : List Job) (id : ℕ) (old new : S) (turn : Turn) : Type 0 where
  pub round : ℕ
  pub held : List ℕ
  pub taken : IsTakeAnswer opening before id (Taken turn.number round held)
  pub worked : Worked may opening (after_take before) jobs id round held old new turn
  pub calls : after.calls ≡ before.calls + (1 + (turn.booked + turn.refused))

abbrev pub IsNothing : Turn → Type 0
IsNothing turn = (turn.number ≡ 0) × (turn.booked ≡ 0) × (turn.refused ≡ 0) × (turn.samples ≡ 0)

-- a turn of a collector that is not known
abbrev pub WasUnknown : State → Counts → Counts → ℕ → Turn → Type 0
WasUnknown opening before after id turn = (turn.end ≡ NotJoined) × IsTakeAnswer opening before id (Not UnknownCollector) × (after.calls ≡ before.calls + 1)

-- a turn whose Take was not entered
abbrev pub WasNotEntered : Counts → Counts → Turn → Type 0
WasNotEntered before after turn = ((turn.end ≡ JournalFull) ⊎ (turn.end ≡ Memory)) × (after.calls ≡ before.calls)

-- a turn took an allocation, or it did and fetched nothing
abbrev pub Turned : {S : Type 0} → (S → Get → Result Reply FetchFault → S → Type 0) → State → Counts → Counts → List Job → ℕ → S → S → Turn → Type 0
Turned may opening before after jobs id old new turn =
    Took may opening before after jobs id old new turn
    ⊎ ((new ≡ old) × IsNothing turn × (WasUnknown opening before after id turn ⊎ WasNotEntered before after turn))

-- what stands with a worker is a turn of its own pass and its own device
abbrev pub DidTurn : {S : Type 0} → (S → Get → Result Reply FetchFault → S → Type 0) → State → List Job → ℕ → Counts → Counts → S → S → Option Turn → Type 0
DidTurn may opening jobs id before after old new turn =
    IsSomeAnd turn (λ (t : Turn).
    Turned may opening before after jobs id old new t × (after.booked ≡ before.booked + t.samples) × (after.seat ≡ before.seat)
    × (t.end ≡ JournalFull → Reached opening after IsFull))
