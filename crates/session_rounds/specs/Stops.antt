-- Why a session ends before its last round.
use Rattle.std.specs.Prelude.{◌≡◌, ◌≢◌, ◌≤◌, ◌+◌, ◌⊎◌, ℕ, List, Option, Some, None, Ok, Any, Contains, IsSomeAnd, ⊤}
use Rattle.serde_json.specs.View.{items_view}
use Rattle.sd_documents.specs.declared.config.Job.{Job}
use Rattle.sd_documents.specs.declared.group.Group.{Group}
use Rattle.relabel.specs.Applying.{IsRefusedFrom, rules_said}
use Rattle.relabel.specs.Compiling.{any_text}
use Rattle.relabel.specs.declared.error.RuleError.TheVariants as fault
use Rattle.relabel.specs.declared.error.RulesError.{RulesError}
use Rattle.relabel.specs.declared.rule.RuleSettings.{RuleSettings}
use Rattle.fleet_events.specs.declared.answer.Answer.{Answer}
use Rattle.fleet_events.specs.declared.answer.Answer.TheVariants.{Not}
use Rattle.fleet_events.specs.declared.event.Event.{Event}
use Rattle.fleet_events.specs.declared.refusal.Refusal.{Refusal}
use Rattle.http_get.specs.Discoveries.{discover_event}
use Rattle.allocation_core.specs.State.{State}
use Rattle.allocation_core.specs.Steps.{answer_of}
use Rattle.alloc_desk.specs.Counts.{Counts}
use Rattle.alloc_desk.specs.declared.attempt.ReallocateError.{ReallocateError}
use Rattle.alloc_desk.specs.declared.attempt.ReallocateError.TheVariants as search
use Rattle.alloc_desk.specs.declared.record.EnterError.{EnterError}
use Rattle.alloc_desk.specs.declared.record.EnterError.TheVariants as entering
use Rattle.alloc_desk.specs.History.{History}
use Rattle.alloc_desk.specs.Reached.{IsFull, Reached}
use Rattle.collector_pool.specs.declared.turn.Turn.{Turn}
use Rattle.collector_pool.specs.declared.turn.TurnEnd.TheVariants as turned
use Rattle.session.specs.declared.document.Session.{Session}
use Rattle.session_rounds.specs.declared.stop.SessionStop.{SessionStop}
use Rattle.session_rounds.specs.declared.stop.SessionStop.TheVariants.{Refused, Rules, JournalFull, Memory}

-- some pass was told this of a legal history
abbrev pub WasTold : State → (History → Type 0) → Type 0
WasTold opening Holds = (counts : Counts) × Reached opening counts Holds

-- the last event that the pass entered is one of these, and the machine's answer to it was this refusal
pub record WasRefused (opening : State) (old new : Counts) (IsEntered : Event → Type 0) (answer : Answer) : Type 0 where
  pub event : Event
  pub entered : IsEntered event
  pub reason : Refusal
  pub refused : answer ≡ Not reason
  pub before : Counts
  pub since : old.calls ≤ before.calls
  pub last : new.calls ≡ before.calls + 1
  pub told : Reached opening before (λ h. answer ≡ answer_of h.state event)

-- the job's rules do not read, and it is not memory that was wanted
abbrev pub AreRefused : RulesError → Job → Type 0
AreRefused error job = (error.error ≢ fault.Memory) × IsRefusedFrom any_text 1 (items_view job.rules) error

-- what a stop says where no refusal is one, and the rules of these jobs are read
abbrev pub IsQuietStop : State → List Job → SessionStop → Type 0
IsQuietStop opening jobs (Refused answer) = ⊥
IsQuietStop opening jobs (Rules error) = Any (AreRefused error) jobs
IsQuietStop opening jobs JournalFull = WasTold opening IsFull
IsQuietStop opening jobs Memory = ⊤

-- the same where a pass, with these counts before and after it, enters such events that are not to be refused
abbrev pub IsStop : State → Counts → Counts → (Event → Type 0) → List Job → SessionStop → Type 0
IsStop opening old new IsEntered jobs (Refused answer) = WasRefused opening old new IsEntered answer
IsStop opening old new IsEntered jobs stop = IsQuietStop opening jobs stop

-- what a source of the job lists, by these rules
abbrev pub IsListed : Job → List RuleSettings → Event → Type 0
IsListed job rules event = (source : ℕ) × (groups : List Group) × (event ≡ discover_event job rules source groups)

-- the same by the rules that the job says
abbrev pub ListsSuch : Event → Job → Type 0
ListsSuch event job = (rules : List RuleSettings) × (rules_said (items_view job.rules) ≡ Ok rules) × IsListed job rules event

-- what a session enters before its rounds: its Joins, and what the sources of its jobs list
abbrev pub IsBeginning : Session → Event → Type 0
IsBeginning session event = Contains session.joins event ⊎ Any (ListsSuch event) session.config.jobs

-- ---- what the parts of a session stop with

abbrev pub entering_stop : EnterError → SessionStop
entering_stop entering.JournalFull = JournalFull
entering_stop entering.Memory = Memory

-- rules that want memory stop with that
abbrev pub IsRulesStop : RulesError → SessionStop → Type 0
IsRulesStop error stop = (error.error ≡ fault.Memory → stop ≡ Memory) × (error.error ≢ fault.Memory → stop ≡ Rules error)

-- a reallocation that was overtaken, and one without a number left, stop nothing
abbrev pub search_stop : ReallocateError → Option SessionStop
search_stop search.JournalFull = Some JournalFull
search_stop search.Memory = Some Memory
search_stop search.NumbersSpent = None
search_stop (search.Overtaken lost) = None

-- the turn met what it is stopped with
abbrev pub IsTurnStop : Option Turn → SessionStop → Type 0
IsTurnStop turn JournalFull = IsSomeAnd turn (λ t. t.end ≡ turned.JournalFull)
IsTurnStop turn Memory = IsSomeAnd turn (λ t. t.end ≡ turned.Memory)
IsTurnStop turn (Refused answer) = ⊥
IsTurnStop turn (Rules error) = ⊥
