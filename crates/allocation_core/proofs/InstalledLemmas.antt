-- An Install of a certified plan is refused by no fault, nor is a Spread that is certified.
use Rattle.std.proofs.Common.{◌≡◌, ◌+◌, length, Option, Some, None, Bool, true, false, refl, inl, inr}
use Rattle.std.specs.Prelude.{if◌then◌else◌, nat_lt}
use Rattle.price_certificate.specs.Faults.{NoFaultIsCertified, fault_of}
use Rattle.price_certificate.specs.Problem.{IsProblem, Problem, bins_of}
use Rattle.price_certificate.specs.declared.plan.Plan.{Plan}
use Rattle.price_certificate.specs.declared.verdict.Fault.{Fault}
use Rattle.price_certificate.proofs.First.{both_none, or_else_none}
use Rattle.spread_certificate.specs.Judged.{NoBestFaultIsCertified, best_fault, spread_fault, told_fault}
use Rattle.spread_certificate.specs.declared.spread.Spread.{Spread as SpreadPlan}
use Rattle.spread_certificate.specs.declared.verdict.SpreadFault.{SpreadFault}
use Rattle.spread_certificate.proofs.JudgeLemmas.{caps_fine}
use Rattle.handover.specs.declared.holders.TheConstants.{LAST_NUMBER}
use Rattle.allocation_core.specs.State.{State, allocation_at, current_of, current_pairs, first_state, instance_at}
use Rattle.allocation_core.specs.Steps.{answer_of, answer_by, plan_refusal, same_pairs, spread_refusal}
use Rattle.allocation_core.specs.Runs.{state_of}
use Rattle.allocation_core.specs.Kept.{IsKept}
use Rattle.allocation_core.specs.Installed.{IsInstalled, IsCertifiedNow, IsCertifiedWithin, CertifiedAreInstalled, SpreadsAreInstalled}
use Rattle.fleet_events.specs.declared.event.Event.TheVariants.{Install, Spread}
use Rattle.fleet_events.specs.declared.answer.Answer.TheVariants.{Published}
use Rattle.fleet_events.specs.declared.refusal.Refusal.TheVariants.{Unchanged, NumbersSpent}
use Rattle.fleet_assignment.specs.Best.{InstancesAreProblems}
use Rattle.allocation_core.proofs.StepLemmas.{run_kept, start_kept}

numbered : (m : State) (same room : Bool) → IsInstalled m (answer_by (if same then Some (Unchanged (current_of m)) else if room then None else Some NumbersSpent) (Published (current_of m + 1)))
numbered m true room = inr (inl refl)
numbered m false true = inl refl
numbered m false false = inr (inr refl)

faultless : (m : State) (plan : Plan) (fault : Option Fault) → fault ≡ None → IsInstalled m (answer_by (plan_refusal m plan fault) (Published (current_of m + 1)))
faultless m plan None e = numbered m (same_pairs (allocation_at m plan.pairs) (current_pairs m)) (nat_lt (current_of m) LAST_NUMBER)
faultless m plan (Some fault) e = cc

pub installed : NoFaultIsCertified → InstancesAreProblems → (m : State) (plan : Plan) → IsKept m → IsCertifiedNow m plan → IsInstalled m (answer_of m (Install plan))
unfolding answer_of
installed law problems m plan kept h = faultless m plan (fault_of (instance_at m) plan.pairs plan.item_prices plan.bin_prices) ((law (instance_at m) plan.pairs plan.item_prices plan.bin_prices (problems m.fleet (current_pairs m) kept.fleet)).1 h)

pub certified_are_installed : NoFaultIsCertified → InstancesAreProblems → CertifiedAreInstalled
certified_are_installed law problems jobs report_rounds events plan h = installed law problems (state_of (first_state jobs report_rounds) events) plan (run_kept (first_state jobs report_rounds) events (start_kept jobs report_rounds)) h

-- ---- spreads

-- a spread without a fault has a cap for each bin
pub caps_of_fine : (p : Problem) (spread : SpreadPlan) → spread_fault p spread ≡ None → length spread.caps ≡ bins_of p
unfolding spread_fault best_fault
caps_of_fine p spread e = (caps_fine p spread.caps (or_else_none _ _ (or_else_none _ _ e).0).0).bins

-- one that is certified has none
pub no_fault_within : NoBestFaultIsCertified → (m : State) (spread : SpreadPlan) → IsProblem (instance_at m) → IsCertifiedWithin m spread → spread_fault (instance_at m) spread ≡ None
unfolding spread_fault
no_fault_within law m spread problem h =
    both_none (best_fault (instance_at m) spread) (told_fault (instance_at m) spread spread.even) ((law (instance_at m) spread problem).1 (h.caps, h.free, h.within)) h.even

faultless_within : (m : State) (spread : SpreadPlan) (fault : Option SpreadFault) → fault ≡ None → IsInstalled m (answer_by (spread_refusal m spread fault) (Published (current_of m + 1)))
faultless_within m spread None e = numbered m (same_pairs (allocation_at m spread.plan.pairs) (current_pairs m)) (nat_lt (current_of m) LAST_NUMBER)
faultless_within m spread (Some fault) e = cc

pub spread_installed : NoBestFaultIsCertified → InstancesAreProblems → (m : State) (spread : SpreadPlan) → IsKept m → IsCertifiedWithin m spread → IsInstalled m (answer_of m (Spread spread))
unfolding answer_of
spread_installed law problems m spread kept h = faultless_within m spread (spread_fault (instance_at m) spread) (no_fault_within law m spread (problems m.fleet (current_pairs m) kept.fleet) h)

pub spreads_are_installed : NoBestFaultIsCertified → InstancesAreProblems → SpreadsAreInstalled
spreads_are_installed law problems jobs report_rounds events spread h = spread_installed law problems (state_of (first_state jobs report_rounds) events) spread (run_kept (first_state jobs report_rounds) events (start_kept jobs report_rounds)) h
