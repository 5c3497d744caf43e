-- What a reallocation by a desk that makes loads even promises of legal journals.
use Rattle.std.specs.Prelude.{◌≡◌, ◌<◌, ◌+◌, ℕ, IfSome, Option, Some, None, Result, Ok, Err, length}
use Rattle.price_certificate.specs.Certificate.{IsCertified}
use Rattle.price_certificate.specs.Derived.{bare, capped}
use Rattle.price_certificate.specs.Problem.{Problem}
use Rattle.spread_certificate.specs.Judged.{spread_fault}
use Rattle.spread_certificate.specs.Within.{AreCaps}
use Rattle.spread_certificate.specs.declared.spread.Spread.{Spread as SpreadPlan}
use Rattle.spread_certificate.specs.declared.verdict.SpreadFault.{SpreadFault}
use Rattle.spread_engine.specs.Telling.{IsTold}
use Rattle.spread_engine.specs.Witness.{MovesFew}
use Rattle.allocation_core.specs.State.{State, instance_at}
use Rattle.fleet_events.specs.declared.event.Event.TheVariants.{Spread}
use Rattle.fleet_events.specs.declared.answer.Answer.{Answer}
use Rattle.fleet_events.specs.declared.answer.Answer.TheVariants.{Published as IsPublished, Not}
use Rattle.fleet_events.specs.declared.refusal.Refusal.TheVariants.{RefusedSpread, Unchanged as IsUnchanged, NumbersSpent as AreSpent}
use Rattle.alloc_desk.specs.declared.attempt.Reallocated.{Reallocated}
use Rattle.alloc_desk.specs.declared.attempt.Reallocated.TheVariants.{Published as HasPublished, Unchanged as HasLeft}
use Rattle.alloc_desk.specs.declared.spread_attempt.SpreadAttempt.{SpreadAttempt}
use Rattle.alloc_desk.specs.declared.spread_attempt.SpreadAttempt.TheVariants.{Published, Unchanged, NumbersSpent, Lost as IsLost}
use Rattle.alloc_desk.specs.declared.spread_attempt.SpreadError.{SpreadError}
use Rattle.alloc_desk.specs.declared.spread_attempt.SpreadError.TheVariants.{JournalFull, Memory, Overtaken, NumbersSpent as NumbersRanOut}
use Rattle.alloc_desk.specs.Counts.{Counts}
use Rattle.alloc_desk.specs.Reached.{Reached, IsFull}
use Rattle.alloc_desk.specs.Reallocating.{EndsIn}

-- what the answer to a Spread says of an attempt
abbrev pub spread_attempted_by : Answer → SpreadAttempt
spread_attempted_by (IsPublished number) = Published number
spread_attempted_by (Not (IsUnchanged number)) = Unchanged number
spread_attempted_by (Not (RefusedSpread fault)) = IsLost fault
spread_attempted_by _ = NumbersSpent

-- what a search is to know of a state: its instance, and how many jobs there are, since so many bins in a row are a collector's
pub record IsQuestion (state : State) (question : Problem × ℕ) : Type 0 where
  pub instance : question.0 ≡ instance_at state
  pub jobs : question.1 ≡ length state.fleet.jobs

-- A spread is certified for an instance: its plan within its caps, and the same pairs where nothing was before; the judge finds no
-- fault in it; what it tells of how even it is, is of so many jobs and of the slack; and where moves are bounded it moves at most so many
-- more than any best plan.
pub record IsFound (instance : Problem) (jobs slack : ℕ) (most_moves : Option ℕ) (spread : SpreadPlan) : Type 0 where
  pub caps : AreCaps instance spread.caps
  pub within : IsCertified (capped spread.caps instance) spread.plan.pairs spread.plan.item_prices spread.plan.bin_prices
  pub free : IsCertified (bare instance) spread.plan.pairs spread.free_item_prices spread.free_bin_prices
  pub judged : spread_fault instance spread ≡ None
  pub told : IfSome spread.even (IsTold jobs slack)
  pub moves : IfSome most_moves (λ most. MovesFew instance spread.plan.pairs most)

-- a spread that was found for the instance of a state that a legal journal reaches, and that was then answered so
pub record Spreads (opening : State) (counts : Counts) (slack : ℕ) (most_moves : Option ℕ) (question : Problem × ℕ) (spread : SpreadPlan) (answer : Answer) : Type 0 where
  pub searched : Reached opening counts (λ h. IsQuestion h.state question)
  pub found : IsFound question.0 question.1 slack most_moves spread
  pub answered : EndsIn opening (counts.calls + 1) (Spread spread) answer

-- there is such a spread with this answer
abbrev pub InstalledSpread : State → Counts → ℕ → Option ℕ → Answer → Type 0
InstalledSpread opening counts slack most_moves answer = (question : Problem × ℕ) × ((spread : SpreadPlan) × Spreads opening counts slack most_moves question spread answer)

-- there is such a spread that was refused for this fault
abbrev pub OvertookSpread : State → Counts → ℕ → Option ℕ → SpreadFault → Type 0
OvertookSpread opening counts slack most_moves fault = InstalledSpread opening counts slack most_moves (Not (RefusedSpread fault))

-- what one attempt came to, by a pass that had these counts
abbrev pub CameToSpread : State → Counts → ℕ → Option ℕ → SpreadAttempt → Type 0
CameToSpread opening counts slack most_moves (Published number) = InstalledSpread opening counts slack most_moves (IsPublished number)
CameToSpread opening counts slack most_moves (Unchanged number) = InstalledSpread opening counts slack most_moves (Not (IsUnchanged number))
CameToSpread opening counts slack most_moves NumbersSpent = InstalledSpread opening counts slack most_moves (Not AreSpent)
CameToSpread opening counts slack most_moves (IsLost fault) = OvertookSpread opening counts slack most_moves fault

-- it holds of the counts before the pass's last call
abbrev pub OneBefore : Counts → (Counts → Type 0) → Type 0
OneBefore counts Holds = (before : ℕ) × ((counts.calls ≡ before + 1) × Holds (record { seat = counts.seat; calls = before; booked = counts.booked }))

-- what the last of so many lost attempts leaves
abbrev pub LostSpreadIn : State → Counts → ℕ → Option ℕ → ℕ → Option SpreadFault → Type 0
LostSpreadIn opening counts slack most_moves attempts None = attempts ≡ 0
LostSpreadIn opening counts slack most_moves attempts (Some fault) = (0 < attempts) × OneBefore counts (λ before. OvertookSpread opening before slack most_moves fault)

-- how such a reallocation ended, by the counts before and after it
abbrev pub EndedSpread : State → Counts → Counts → ℕ → ℕ → Option ℕ → Result Reallocated SpreadError → Type 0
EndedSpread opening old new tries slack most_moves (Ok (HasPublished number)) = (old.calls < new.calls) × OneBefore new (λ before. InstalledSpread opening before slack most_moves (IsPublished number))
EndedSpread opening old new tries slack most_moves (Ok (HasLeft number)) = (old.calls < new.calls) × OneBefore new (λ before. InstalledSpread opening before slack most_moves (Not (IsUnchanged number)))
EndedSpread opening old new tries slack most_moves (Err NumbersRanOut) = (old.calls < new.calls) × OneBefore new (λ before. InstalledSpread opening before slack most_moves (Not AreSpent))
EndedSpread opening old new tries slack most_moves (Err (Overtaken lost)) = (new.calls ≡ old.calls + tries) × LostSpreadIn opening new slack most_moves tries lost
EndedSpread opening old new tries slack most_moves (Err JournalFull) = Reached opening new IsFull
EndedSpread opening old new tries slack most_moves (Err Memory) = Unit {0}
