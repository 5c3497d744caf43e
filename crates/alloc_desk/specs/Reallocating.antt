-- What a reallocation by a desk promises of legal journals.
use Rattle.std.specs.Prelude.{◌≡◌, ◌<◌, ◌≤◌, ◌+◌, ℕ, List, [], ◌∷◌, ◌++◌, length, Option, Some, None, Result, Ok, Err}
use Rattle.price_certificate.specs.Certificate.{IsCertified}
use Rattle.price_certificate.specs.declared.plan.Plan.{Plan}
use Rattle.allocation_core.specs.State.{State, instance_at}
use Rattle.fleet_events.specs.declared.event.Event.{Event}
use Rattle.fleet_events.specs.declared.event.Event.TheVariants.{Install}
use Rattle.fleet_events.specs.declared.answer.Answer.{Answer}
use Rattle.fleet_events.specs.declared.answer.Answer.TheVariants.{Published as IsPublished, Not}
use Rattle.fleet_events.specs.declared.refusal.Refusal.TheVariants.{Refused, Unchanged as IsUnchanged, NumbersSpent as AreSpent}
use Rattle.journal_entries.specs.declared.entry.Entry.{Entry}
use Rattle.alloc_desk.specs.declared.attempt.Attempt.{Attempt}
use Rattle.alloc_desk.specs.declared.attempt.Attempt.TheVariants.{Published, Unchanged, NumbersSpent, Lost as IsLost}
use Rattle.alloc_desk.specs.declared.attempt.Lost.{Lost}
use Rattle.alloc_desk.specs.declared.attempt.Reallocated.{Reallocated}
use Rattle.alloc_desk.specs.declared.attempt.Reallocated.TheVariants.{Published as HasPublished, Unchanged as HasLeft}
use Rattle.alloc_desk.specs.declared.attempt.ReallocateError.{ReallocateError}
use Rattle.alloc_desk.specs.declared.attempt.ReallocateError.TheVariants.{JournalFull, Memory, Overtaken, NumbersSpent as NumbersRanOut}
use Rattle.alloc_desk.specs.Counts.{Counts}
use Rattle.journal_entries.specs.Legal.{IsLegal}
use Rattle.alloc_desk.specs.Reached.{Reached, IsFull}

-- some legal journal of at least so many entries ends in this event with this answer
pub record EndsIn (opening : State) (calls : ℕ) (event : Event) (answer : Answer) : Type 0 where
  pub before : List Entry
  pub seat : ℕ
  pub end : State
  pub legal : IsLegal opening (before ++ record { event = event; seat = seat; answer = answer } ∷ []) end
  pub long : calls ≤ length before + 1

-- such a journal ends in some Install with this answer
abbrev pub Installed : State → ℕ → Answer → Type 0
Installed opening calls answer = (plan : Plan) × EndsIn opening calls (Install plan) answer

-- a plan that is certified for the instance of a state that a legal journal reaches, and that was then refused
pub record Overtook (opening : State) (counts : Counts) (lost : Lost) : Type 0 where
  pub searched : Reached opening counts (λ h. lost.instance ≡ instance_at h.state)
  pub certified : IsCertified lost.instance lost.plan.pairs lost.plan.item_prices lost.plan.bin_prices
  pub refused : EndsIn opening (counts.calls + 1) (Install lost.plan) (Not (Refused lost.fault))

-- what one attempt came to, by a pass that had these counts
abbrev pub CameTo : State → Counts → Attempt → Type 0
CameTo opening counts (Published number) = Installed opening (counts.calls + 1) (IsPublished number)
CameTo opening counts (Unchanged number) = Installed opening (counts.calls + 1) (Not (IsUnchanged number))
CameTo opening counts NumbersSpent = Installed opening (counts.calls + 1) (Not AreSpent)
CameTo opening counts (IsLost lost) = Overtook opening counts lost

-- what the last of so many lost attempts leaves
abbrev pub LostIn : State → Counts → ℕ → Option Lost → Type 0
LostIn opening counts attempts None = attempts ≡ 0
LostIn opening counts attempts (Some lost) =
    (0 < attempts) × ((before : ℕ) × (counts.calls ≡ before + 1) × Overtook opening (record { seat = counts.seat; calls = before; booked = counts.booked }) lost)

-- how a reallocation ended, by the counts before and after it
abbrev pub Ended : State → Counts → Counts → ℕ → Result Reallocated ReallocateError → Type 0
Ended opening old new tries (Ok (HasPublished number)) = (old.calls < new.calls) × Installed opening new.calls (IsPublished number)
Ended opening old new tries (Ok (HasLeft number)) = (old.calls < new.calls) × Installed opening new.calls (Not (IsUnchanged number))
Ended opening old new tries (Err NumbersRanOut) = (old.calls < new.calls) × Installed opening new.calls (Not AreSpent)
Ended opening old new tries (Err (Overtaken lost)) = (new.calls ≡ old.calls + tries) × LostIn opening new tries lost
Ended opening old new tries (Err JournalFull) = Reached opening new IsFull
Ended opening old new tries (Err Memory) = Unit {0}
