-- What an event and its answer book, read one after the other.
use Rattle.std.proofs.Common.{◌≡◌, ℕ, ◌+◌, ◌≤◌, List, [], ◌∷◌, ◌++◌, refl, sym, arith}
use Rattle.std.specs.Prelude.{Bool, true, false, if◌then◌else◌}
use Rattle.std.proofs.lemmas.List.Sums.{sum_by-append}
use Rattle.allocation_core.specs.Steps.{gained}
use Rattle.fleet_events.specs.declared.event.Event.{Event}
use Rattle.fleet_events.specs.declared.event.Event.TheVariants.{Discover, Join, Leave, Drain, SetLimits, Install, Spread, NextRound, Take, Serve, Release, Report}
use Rattle.fleet_events.specs.declared.answer.Answer.{Answer}
use Rattle.fleet_events.specs.declared.answer.Answer.TheVariants.{Discovered, Joined, Left, Draining, LimitsSet, Published, RoundOpen, Taken, Served, Released, Booked, Not}
use Rattle.journal_entries.specs.declared.entry.Entry.{Entry}
use Rattle.alloc_desk.specs.Gains.{offered, is_booked}
use Rattle.alloc_desk.specs.History.{gained_in}

either_way : (n : ℕ) (b : Bool) → n ≡ (if b then n else n)
either_way n true = refl
either_way n false = refl

pub gained_by : (event : Event) (answer : Answer) → gained event answer ≡ (if is_booked answer then offered event else 0)
gained_by (Report report) Booked = refl
gained_by (Report report) (Discovered added removed) = refl
gained_by (Report report) (Joined id) = refl
gained_by (Report report) Left = refl
gained_by (Report report) Draining = refl
gained_by (Report report) LimitsSet = refl
gained_by (Report report) (Published number) = refl
gained_by (Report report) (RoundOpen round) = refl
gained_by (Report report) (Taken number round held) = refl
gained_by (Report report) (Served number round listed left_out) = refl
gained_by (Report report) (Released count) = refl
gained_by (Report report) (Not refusal) = refl
gained_by (Discover job source targets) answer = either_way 0 (is_booked answer)
gained_by (Join name reach limits) answer = either_way 0 (is_booked answer)
gained_by (Leave id) answer = either_way 0 (is_booked answer)
gained_by (Drain id) answer = either_way 0 (is_booked answer)
gained_by (SetLimits id limits) answer = either_way 0 (is_booked answer)
gained_by (Install plan) answer = either_way 0 (is_booked answer)
gained_by (Spread spread) answer = either_way 0 (is_booked answer)
gained_by NextRound answer = either_way 0 (is_booked answer)
gained_by (Take id) answer = either_way 0 (is_booked answer)
gained_by (Serve id name) answer = either_way 0 (is_booked answer)
gained_by (Release id name) answer = either_way 0 (is_booked answer)

pub gained_in_push : (es : List Entry) (e : Entry) → gained_in (es ++ e ∷ []) ≡ gained_in es + gained e.event e.answer
gained_in_push es e =
    let gain : Entry → ℕ = λ x. gained x.event x.answer in
    omega (arith, sum_by-append gain es (e ∷ []))
