use Rattle.std.proofs.Common.{◌≡◌, None, IfOk, ap, ◌∙◌, subst}
use Rattle.allocation_core.specs.Renewed.{IsWhyNot, renewal_refusal, renewed}
use Rattle.fleet.specs.Fleet.{FleetState}
use Rattle.audit.specs.Checks.{renewal_fault}
use Rattle.audit.specs.Laws.{IsWhole, ReadAlike}
use Rattle.audit.specs.Renewals.{IsRenewalOf}
use Rattle.audit.proofs.Refusals.{fault_granted, fault_refused}
use Rattle.audit.proofs.Telling.{never_none, renewal_told}
use Rattle.std.specs.Prelude.{IfNone}
use Rattle.allocation_core.specs.State.{State}
use Rattle.audit.proofs.renewal.renewal_fault.Goals as goal

pub returns-in-Err-renewed_under : goal.returns-in-Err-renewed_under
unfolding renewal_fault
returns-in-Err-renewed_under c =
    let m = c.args.core in
    let n = c.args.next.now in
    let same : c.in-Ok.jobs.items ≡ n.fleet.jobs = c.in-Ok.ensures ∙ c.jobs.ensures.jobs ∙ ap (λ (f : FleetState). f.jobs) c.fleet.ensures in
    record {
      fault = fault_refused c.why_refused.result (renewal_refusal m n.fleet.jobs) m n c.in-Err-renewed_under.why (subst (λ jobs. IsWhyNot (renewal_refusal m jobs) c.in-Err-renewed_under.why) same c.in-Err-renewed_under.ensures.refused) c.why_refused.ensures.why c.why_refused.ensures.memory;
      renewal = never_none (IsWhole n) (IsRenewalOf m n) c.why_refused.result c.in-Err-renewed_under.why c.why_refused.ensures.why c.why_refused.ensures.memory;
    }

pub returns-in-Ok-renewed_under-clause-fault : goal.returns-in-Ok-renewed_under-clause-fault
unfolding renewal_fault
returns-in-Ok-renewed_under-clause-fault c =
    let m = c.args.core in
    let n = c.args.next.now in
    let same : c.in-Ok.jobs.items ≡ n.fleet.jobs = c.in-Ok.ensures ∙ c.jobs.ensures.jobs ∙ ap (λ (f : FleetState). f.jobs) c.fleet.ensures in
    fault_granted c.other_state-why.result (renewal_refusal m n.fleet.jobs) m n c.in-Ok-renewed_under.renewed (subst (λ jobs. renewal_refusal m jobs ≡ None) same c.in-Ok-renewed_under.ensures.granted) (c.in-Ok-renewed_under.ensures.renewed ∙ (λ i. renewed m (same i) (c.report_rounds.ensures i))) c.other_state-why.ensures.fault

pub returns-in-Ok-renewed_under-clause-renewal : goal.returns-in-Ok-renewed_under-clause-renewal
returns-in-Ok-renewed_under-clause-renewal c =
    let m = c.args.core in
    let n = c.args.next.now in
    let same : c.in-Ok.jobs.items ≡ n.fleet.jobs = c.in-Ok.ensures ∙ c.jobs.ensures.jobs ∙ ap (λ (f : FleetState). f.jobs) c.fleet.ensures in
    renewal_told c.other_state-why.result m n c.in-Ok.jobs.items same c.in-Ok-renewed_under.ensures.granted c.in-Ok-renewed_under.ensures.ascending c.histories_tell.ensures
    (subst (λ (s : State). IfOk c.other_state-why.result (λ o. IfNone o (ReadAlike s n))) (c.in-Ok-renewed_under.ensures.renewed ∙ ap (renewed m c.in-Ok.jobs.items) c.report_rounds.ensures) c.other_state-why.ensures.alike)
