-- What stops a part of a session stops the whole.
use Rattle.std.proofs.Common.{◌≡◌, ℕ, zero, suc, ◌<◌, ◌≤◌, List, [], ◌∷◌, refl, sym, subst, arith, inl, inr, length, get_or, map}
use Rattle.std.specs.Prelude.{Option, Some, None, Result, Ok, Err, Any, IfErr, IsErrAnd, IsSomeAnd, ◌⊎◌, ◌≢◌}
use Rattle.serde_json.specs.View.{items_view}
use Rattle.sd_documents.specs.declared.config.Job.{Job}
use Rattle.sd_documents.specs.declared.group.Group.{Group}
use Rattle.relabel.specs.Applying.{IsRefusedFrom}
use Rattle.relabel.specs.Compiling.{any_text}
use Rattle.relabel.specs.declared.error.RuleError.{RuleError}
use Rattle.relabel.specs.declared.error.RuleError.TheVariants as fault
use Rattle.relabel.specs.declared.error.RulesError.{RulesError}
use Rattle.relabel.specs.declared.rule.RuleSettings.{RuleSettings}
use Rattle.fleet_events.specs.declared.event.Event.{Event}
use Rattle.http_get.specs.declared.error.RefreshError.{RefreshError}
use Rattle.http_get.specs.declared.error.RefreshError.TheVariants.{NoSource}
use Rattle.http_get.specs.declared.error.RefreshError.TheVariants as refresh
use Rattle.http_get.specs.declared.get.Get.{Get}
use Rattle.http_get.specs.declared.reply.FetchFault.{FetchFault}
use Rattle.http_get.specs.declared.reply.Reply.{Reply}
use Rattle.http_get.specs.Discoveries.{discover_event, groups_answered, unanswered, ◌>>=◌}
use Rattle.http_get.specs.Refreshing.{IsRefresh, Refreshed, RefreshedBy, source_get}
use Rattle.allocation_core.specs.State.{State}
use Rattle.alloc_desk.specs.Counts.{Counts}
use Rattle.alloc_desk.specs.History.{History}
use Rattle.alloc_desk.specs.Reached.{IsFull, Reached}
use Rattle.collector_pool.specs.Turns.{DidTurn}
use Rattle.collector_pool.specs.declared.turn.Turn.{Turn}
use Rattle.collector_pool.specs.declared.turn.TurnEnd.TheVariants as turned
use Rattle.collector_pool.specs.declared.worker.Worker.{Worker}
use Rattle.session_rounds.specs.Rounds.{HadTurns}
use Rattle.session_rounds.specs.Turns.{turns_in}
use Rattle.session_rounds.specs.Stops.{AreRefused, IsListed, IsQuietStop, IsRulesStop, IsStop, IsTurnStop, WasTold}
use Rattle.session_rounds.specs.declared.stop.SessionStop.{SessionStop}
use Rattle.session_rounds.specs.declared.stop.SessionStop.TheVariants.{Refused, Rules, JournalFull, Memory}

-- what a `?` passes on
pub stops_on : {A : Type 0} (Says : SessionStop → Type 0) (r : Result A SessionStop) (stop : SessionStop) → IsErrAnd r (λ s. s ≡ stop) → Says stop → IfErr r Says
stops_on Says (Ok x) stop is said = absurd is
stops_on Says (Err s) stop is said = subst Says (sym is) said

-- what a last call returns
pub returns_stop : {A : Type 0} (Says More : SessionStop → Type 0) (r : Result A SessionStop) → ((stop : SessionStop) → Says stop → More stop) → IfErr r Says → IfErr r More
returns_stop Says More (Ok x) more said = said
returns_stop Says More (Err stop) more said = more stop said

-- what some history of a pass is told, another clause says less of
pub told_less : (opening : State) (counts : Counts) (Holds More : History → Type 0) → ((h : History) → Holds h → More h) → Reached opening counts Holds → Reached opening counts More
told_less opening counts Holds More more told = record { history = told.history; legal = told.legal; calls = told.calls; booked = told.booked; holds = more told.history told.holds }

-- rules that do not read
memory_or_not : (error : RuleError) → (error ≡ fault.Memory) ⊎ (error ≢ fault.Memory)
memory_or_not fault.Shape = inr (λ is. cc)
memory_or_not fault.UnknownAction = inr (λ is. cc)
memory_or_not fault.NoTargetLabel = inr (λ is. cc)
memory_or_not fault.ZeroModulus = inr (λ is. cc)
memory_or_not fault.BadPattern = inr (λ is. cc)
memory_or_not fault.Memory = inl refl

pub rules_stop_on :
    {A : Type 0} (opening : State) (old new : Counts) (P : Event → Type 0) (jobs : List Job) (r : Result A SessionStop) (error : RulesError) (index : ℕ) (job : Job) → index < length jobs → get_or jobs index job ≡ job
    → IsErrAnd r (IsRulesStop error) → IsRefusedFrom any_text 1 (items_view job.rules) error → IfErr r (IsStop opening old new P jobs)
rules_stop_on opening old new P jobs (Ok x) error index job below at is refused = absurd is
rules_stop_on opening old new P jobs (Err stop) error index job below at is refused =
    elim (memory_or_not error.error) [
      | inl memory ↦ subst (IsStop opening old new P jobs) (sym (is.0 memory)) tt
      | inr other ↦ subst (IsStop opening old new P jobs) (sym (is.1 other)) (index, job, below, at, (other, refused))
    ]

-- no refusal, and more jobs
pub quiet_stop :
    (opening : State) (old new : Counts) (P : Event → Type 0) (jobs more : List Job) (stop : SessionStop) → ((error : RulesError) → Any (AreRefused error) jobs → Any (AreRefused error) more)
    → IsQuietStop opening jobs stop → IsStop opening old new P more stop
quiet_stop opening old new P jobs more (Refused answer) rules was = absurd was
quiet_stop opening old new P jobs more (Rules error) rules was = rules error was
quiet_stop opening old new P jobs more JournalFull rules was = was
quiet_stop opening old new P jobs more Memory rules was = was

-- no rules were read
pub none_read : (jobs : List Job) (error : RulesError) → Any (AreRefused error) [] → Any (AreRefused error) jobs
none_read jobs error any = absurd (omega (arith, any.2))

-- a part that no rules were read in, from a later count on, with fewer events
pub stop_within :
    (opening : State) (old mid new : Counts) (P Q : Event → Type 0) (jobs : List Job) (stop : SessionStop) → old.calls ≤ mid.calls → ((event : Event) → P event → Q event)
    → IsStop opening mid new P [] stop → IsStop opening old new Q jobs stop
stop_within opening old mid new P Q jobs (Refused answer) since events was =
    record {
      event = was.event;
      entered = events was.event was.entered;
      reason = was.reason;
      refused = was.refused;
      before = was.before;
      since = omega (arith, since, was.since);
      last = was.last;
      told = was.told;
    }
stop_within opening old mid new P Q jobs (Rules error) since events was = none_read jobs error was
stop_within opening old mid new P Q jobs JournalFull since events was = was
stop_within opening old mid new P Q jobs Memory since events was = was

-- ---- what a refresh lists

never_listed : (event : Event) (fault : RefreshError) → Err fault ≡ Ok event → ⊥
never_listed event fault is = cc

module _ (job : Job) (rules : List RuleSettings) (source : ℕ) (event : Event) where
  groups_listed : (groups : Result (List Group) RefreshError) → (groups >>= (λ g. Ok (discover_event job rules source g))) ≡ Ok event → IsListed job rules event
  groups_listed (Ok groups) is = (source, groups, cc)
  groups_listed (Err fault) is = absurd (never_listed event fault is)

  came_listed : (came : Result Reply FetchFault) → IsRefresh job rules source came (Ok event) → IsListed job rules event
  came_listed (Ok reply) is = groups_listed (groups_answered reply) is
  came_listed (Err fault) is = absurd (never_listed event (unanswered fault) (sym is))

  module _ {S : Type 0} (may : S → Get → Result Reply FetchFault → S → Type 0) (old new : S) where
    fetched_listed : (get : Option Get) → RefreshedBy may old new job rules source get (Ok event) → IsListed job rules event
    fetched_listed None was = absurd (never_listed event NoSource (sym was.1))
    fetched_listed (Some get) was = came_listed was.0 was.2

    -- the event of a refresh is what the source lists
    pub refresh_listed : Refreshed may old new job rules source (Ok event) → IsListed job rules event
    refresh_listed (inl was) = fetched_listed (source_get job source) was
    refresh_listed (inr none) = absurd (never_listed event refresh.Memory (sym none.1))

-- ---- what stops a turn

turn_told :
    {S : Type 0} (may : S → Get → Result Reply FetchFault → S → Type 0) (opening : State) (jobs : List Job) (id : ℕ) (before after : Counts) (old new : S) (turn : Option Turn)
    → DidTurn may opening jobs id before after old new turn → IsSomeAnd turn (λ t. t.end ≡ turned.JournalFull) → WasTold opening IsFull
turn_told may opening jobs id before after old new None did full = absurd did
turn_told may opening jobs id before after old new (Some turn) did full = (after, did.3 full)

module _ {L B N S : Type 0} (may : S → Get → Result Reply FetchFault → S → Type 0) (opening : State) (jobs : List Job) where
  turn_told_at :
      (k : ℕ) (worker : Worker L B N S) (olds news : List (Worker L B N S)) (turns : List Turn) → HadTurns may opening jobs olds turns news → k < length news → get_or news k worker ≡ worker
      → IsTurnStop worker.turn JournalFull → WasTold opening IsFull
  turn_told_at k worker [] [] [] had below at full = absurd (omega (arith, below))
  turn_told_at k worker [] [] (turn ∷ turns) had below at full = absurd had
  turn_told_at k worker [] (new ∷ news) [] had below at full = absurd had
  turn_told_at k worker [] (new ∷ news) (turn ∷ turns) had below at full = absurd had
  turn_told_at k worker (old ∷ olds) [] [] had below at full = absurd had
  turn_told_at k worker (old ∷ olds) [] (turn ∷ turns) had below at full = absurd had
  turn_told_at k worker (old ∷ olds) (new ∷ news) [] had below at full = absurd had
  turn_told_at zero worker (old ∷ olds) (new ∷ news) (turn ∷ turns) had below at full =
      let F : Worker L B N S → Type 0 = λ w. IsTurnStop w.turn JournalFull in
      turn_told may opening jobs old.id old.pass new.pass old.scrape new.scrape new.turn had.0.did (subst F (sym at) full)
  turn_told_at (suc k) worker (old ∷ olds) (new ∷ news) (turn ∷ turns) had below at full = turn_told_at k worker olds news turns had.1 (omega (arith, below)) at full

  stop_of_turns :
      (olds news : List (Worker L B N S)) (turns : List Turn) (stop : SessionStop) → HadTurns may opening jobs olds turns news → Any (λ w. IsTurnStop w.turn stop) news
      → IsQuietStop opening jobs stop
  stop_of_turns olds news turns (Refused answer) had any = absurd any.4
  stop_of_turns olds news turns (Rules error) had any = absurd any.4
  stop_of_turns olds news turns JournalFull had any = turn_told_at any.0 any.1 olds news turns had any.2 any.3 any.4
  stop_of_turns olds news turns Memory had any = tt

  -- what stopped one of these turns
  pub turns_stop :
      (olds news : List (Worker L B N S)) (r : Result (Unit {0}) SessionStop) → IfErr r (λ stop. Any (λ w. IsTurnStop w.turn stop) news)
      → HadTurns may opening jobs olds (turns_in (map (λ w. w.turn) news)) news → IfErr r (IsQuietStop opening jobs)
  turns_stop olds news (Ok x) stopped had = stopped
  turns_stop olds news (Err stop) stopped had = stop_of_turns olds news (turns_in (map (λ w. w.turn) news)) stop had stopped
