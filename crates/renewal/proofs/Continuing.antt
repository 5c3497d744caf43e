-- What goes on across a renewal.
use Rattle.std.proofs.Common.{◌≡◌, ℕ, List, [], ◌∷◌, true, None, refl, ap, ◌∙◌}
use Rattle.handover.specs.Handover.{last_of, only}
use Rattle.fleet.specs.Jobs.{are_jobs}
use Rattle.fleet.specs.declared.job.JobSpec.{JobSpec}
use Rattle.fleet_assignment.specs.Best.{IsOnce}
use Rattle.fleet_assignment.specs.Instance.{instance_of}
use Rattle.fleet_renewal.specs.Renewed.{carried, renewed_fleet}
use Rattle.fleet_renewal.proofs.SlotLemmas.{renewed_slot_at}
use Rattle.allocation_core.specs.Kept.{IsKept}
use Rattle.allocation_core.specs.Renewed.{renewal_refusal, renewed}
use Rattle.allocation_core.specs.State.{State, current_pairs, instance_at}
use Rattle.allocation_core.proofs.RenewedLemmas.{free_fleet}
use Rattle.renewal.specs.Continuity.{Continues, RenewalsContinue}
use Rattle.renewal.proofs.Apart.{apart_from_once}
use Rattle.renewal.proofs.Going.{live_survives, served_survives, same_holder, same_job, same_live, same_reach, same_text}
use Rattle.renewal.proofs.InstanceLemmas.{instance_same}
use Rattle.renewal.proofs.LimitsKept.{limit_kept}

continues : (m : State) (jobs : List JobSpec) → IsKept m → are_jobs m.fleet.jobs ≡ true → IsOnce (current_pairs m) → renewal_refusal m jobs ≡ None → Continues m jobs
continues m jobs kept named once free =
    let good = (free_fleet m jobs free).good in
    let pairs = current_pairs m in
    let slots = m.served.slots in
    record {
      targets = λ target stays. record {
        job = same_job m.fleet pairs slots jobs target stays;
        text = same_text m.fleet pairs slots jobs target stays;
        live = λ sources. same_live m.fleet pairs slots jobs target kept.fleet named good stays sources;
        reach = λ place. same_reach m.fleet pairs slots jobs target stays place;
        holder = same_holder m.fleet pairs slots jobs target stays (apart_from_once pairs once);
        slot = renewed_slot_at m.fleet pairs slots jobs target stays;
      };
      live = λ target name live is stays. live_survives m.fleet pairs slots jobs target name live is stays;
      served = λ target name served is stays. served_survives m.fleet pairs slots jobs target name served is stays;
      limits = λ c name is. limit_kept jobs c name is;
    }

only_last : (pairs : List (ℕ × ℕ)) → last_of (only pairs) ≡ pairs
only_last [] = refl
only_last (q ∷ pairs) = refl

same_instance : (m : State) → IsKept m → are_jobs m.fleet.jobs ≡ true → IsOnce (current_pairs m) → (report_rounds : ℕ) → instance_at (renewed m m.fleet.jobs report_rounds) ≡ instance_at m
unfolding renewed
same_instance m kept named once report_rounds =
    let pairs = current_pairs m in
    let slots = m.served.slots in
    ap (instance_of (renewed_fleet m.fleet pairs slots m.fleet.jobs)) (only_last (carried m.fleet pairs slots m.fleet.jobs)) ∙ instance_same m.fleet pairs slots kept.fleet named (apart_from_once pairs once)

pub renewals : RenewalsContinue
renewals m kept named once = (λ jobs free. continues m jobs kept named once free, same_instance m kept named once)
