-- What every state keeps holds of a renewed one; and the jobs stay as they are over events.
use Rattle.std.proofs.Common.{◌≡◌, ℕ, ◌*◌, ◌≤◌, List, [], ◌∷◌, Bool, true, false, Option, Some, None, All, cond, length, refl, arith}
use Rattle.std.specs.Prelude.{nat_lt}
use Rattle.std.proofs.lemmas.Bool.{ltb-false}
use Rattle.handover.specs.Handover.{only}
use Rattle.fleet.specs.Fleet.{FleetState}
use Rattle.fleet.specs.Jobs.{are_jobs}
use Rattle.fleet.specs.declared.job.JobSpec.{JobSpec}
use Rattle.fleet.specs.declared.limits.TheConstants.{MOST_BINS}
use Rattle.fleet_renewal.specs.Renewed.{carried, fleet_refusal, renewed_fleet, renewed_slots}
use Rattle.fleet_renewal.specs.declared.error.RenewError.{RenewError as FleetError}
use Rattle.fleet_renewal.specs.declared.error.RenewError.TheVariants.{BadJobs as BadList, TooManyBins as ManyBins, Memory as NoMemory}
use Rattle.fleet_renewal.proofs.RenewedKept.{renewed_kept}
use Rattle.fleet_renewal.proofs.SlotLemmas.{renewed_slots_all, renewed_slots_fit}
use Rattle.allocation_core.specs.State.{State, current_pairs}
use Rattle.allocation_core.specs.Kept.{IsKept}
use Rattle.allocation_core.specs.Renewed.{renewal_refusal, renewed, rounds_left}

-- nothing is against the fleet's renewal
pub record FreeFleet (count : ℕ) (jobs : List JobSpec) : Type 0 where
  pub good : are_jobs jobs ≡ true
  pub bins : length jobs * count ≤ 16384

free_by : (a b : Bool) → ◌≡◌ {A = Option FleetError} (cond a (cond b (Some ManyBins) None) (Some BadList)) None → (a ≡ true) × (b ≡ false)
free_by true true e = cc
free_by true false e = (refl, refl)
free_by false b e = cc

left_by : (m : State) (o : Option FleetError) → rounds_left m o ≡ None → o ≡ None
left_by m None e = refl
left_by m (Some BadList) e = cc
left_by m (Some ManyBins) e = cc
left_by m (Some NoMemory) e = cc

pub free_fleet : (m : State) (jobs : List JobSpec) → renewal_refusal m jobs ≡ None → FreeFleet (length m.fleet.collectors) jobs
free_fleet m jobs free =
    let tests = free_by (are_jobs jobs) (nat_lt MOST_BINS (length jobs * length m.fleet.collectors)) (left_by m (fleet_refusal m.fleet jobs) free) in
    record { good = tests.0; bins = ltb-false MOST_BINS (length jobs * length m.fleet.collectors) tests.1 }

few_only : (pairs : List (ℕ × ℕ)) → length (only pairs) ≤ 1
few_only [] = omega arith
few_only (q ∷ pairs) = omega arith

-- the number given last stays
pub last_stays : (fleet : FleetState) (pairs : List (ℕ × ℕ)) (slots : List ℕ) (jobs : List JobSpec) → (renewed_fleet fleet pairs slots jobs).last_collector ≡ fleet.last_collector
unfolding renewed_fleet
last_stays fleet pairs slots jobs = refl

pub slots_given : (m : State) (jobs : List JobSpec) → IsKept m → All (λ (c : ℕ). c ≤ (renewed_fleet m.fleet (current_pairs m) m.served.slots jobs).last_collector) (renewed_slots m.fleet (current_pairs m) m.served.slots jobs)
slots_given m jobs kept =
    let all = renewed_slots_all (λ (c : ℕ). c ≤ m.fleet.last_collector) m.fleet (current_pairs m) m.served.slots jobs kept.given_slots (omega arith) in
    λ k d l. omega (arith, all k d l, last_stays m.fleet (current_pairs m) m.served.slots jobs)

pub renewed_state_kept : (m : State) (jobs : List JobSpec) (report_rounds : ℕ) → IsKept m → are_jobs m.fleet.jobs ≡ true → renewal_refusal m jobs ≡ None → IsKept (renewed m jobs report_rounds)
unfolding renewed
renewed_state_kept m jobs report_rounds kept named free =
    let fits = free_fleet m jobs free in
    record {
      fleet = renewed_kept m.fleet (current_pairs m) m.served.slots jobs kept.fleet named fits.good fits.bins;
      few_published = omega (arith, few_only (carried m.fleet (current_pairs m) m.served.slots jobs));
      few_slots = omega (arith, renewed_slots_fit m.fleet (current_pairs m) m.served.slots jobs);
      given_slots = slots_given m jobs kept;
      opened = omega arith;
      from_one = omega arith;
      begun = omega arith;
      past_rounds = λ k d less. absurd (omega arith);
    }
