-- Events that change nothing.
use Rattle.std.proofs.Common.{◌≡◌, ◌<◌, ℕ, List, [], ◌∷◌, Bool, true, false, Option, Some, None, cond, refl, ap, arith}
use Rattle.std.specs.Prelude.{is_some, if◌then◌else◌}
use Rattle.std.proofs.lemmas.Bool.Decides.{nat_tests}
use Rattle.handover.specs.Handover.{taken_by, with_taken}
use Rattle.fleet.specs.Fleet.{is_joined}
use Rattle.fleet_events.specs.declared.event.Event.TheVariants.{Take}
use Rattle.fleet_events.specs.declared.answer.Answer.{Answer}
use Rattle.fleet_events.specs.declared.answer.Answer.TheVariants.{Taken}
use Rattle.fleet_events.specs.declared.refusal.Refusal.{Refusal}
use Rattle.allocation_core.specs.State.{State, current_of, held_by}
use Rattle.allocation_core.specs.Steps.{answer_by, answer_of, changed, granted, refusal_of, state_after}
use Rattle.allocation_core.specs.Idle.{IsIdle}

-- a number that is there, set again
taken_again : (taken : List (ℕ × ℕ)) (collector number : ℕ) → 0 < number → taken_by taken collector ≡ number → with_taken taken collector number ≡ taken
taken_again [] collector number some e = absurd (omega (arith, some, e))
taken_again ((c, n) ∷ taken) collector number some e = grind (arith, nat_tests, e, taken_again taken collector number some)

-- an event that nothing is against, and that changes nothing
idle_by : (m n : State) (o : Option Refusal) (granted answer : Answer) → o ≡ None → n ≡ m → answer ≡ granted → (answer ≡ answer_by o granted) × ((if is_some o then m else n) ≡ m)
idle_by m n None granted answer free same told = (told, same)
idle_by m n (Some r) granted answer free same told = cc

joined_free : (b : Bool) (r : Refusal) → b ≡ true → cond b (let o : Option Refusal = None in o) (Some r) ≡ None
joined_free true r e = refl
joined_free false r e = cc

pub take_idle : (m : State) (id : ℕ) (answer : Answer) → is_joined m.fleet id ≡ true → 0 < current_of m → taken_by m.taken id ≡ current_of m → answer ≡ Taken (current_of m) m.round (held_by m id) → IsIdle m (Take id) (Some answer)
unfolding answer_of state_after
take_idle m id answer joined some taken told =
    idle_by m (changed m (Take id)) (refusal_of m (Take id)) (granted m (Take id)) answer (joined_free (is_joined m.fleet id) _ joined)
    (ap (λ (t : List (ℕ × ℕ)). (let n : State = record m { taken = t } in n)) (taken_again m.taken id (current_of m) some taken)) told
