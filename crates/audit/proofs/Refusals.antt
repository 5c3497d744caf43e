-- What is wrong where a renewal is refused.
use Rattle.std.proofs.Common.{◌≡◌, ◌≢◌, Option, Some, None, Result, Ok, Err, IfOk, OnOk, ap, ◌∙◌}
use Rattle.std.specs.Prelude.{if◌then◌else◌}
use Rattle.allocation_core.specs.Renewed.{IsWhyNot, renewed}
use Rattle.allocation_core.specs.State.{State}
use Rattle.allocation_core.specs.declared.renewal.RenewalError.{RenewalError}
use Rattle.allocation_core.specs.declared.renewal.RenewalError.TheVariants.{Memory}
use Rattle.audit.specs.Checks.{refused_why, renewal_fault_by, same_history}
use Rattle.audit.specs.declared.fault.Why.{Why}
use Rattle.audit.specs.declared.fault.Why.TheVariants.{OtherState}

-- that it is refused, where memory is not why
pub fault_refused : {E : Type 0} (result : Result (Option Why) E) (refusal : Option RenewalError) (m n : State) (why : RenewalError) → IsWhyNot refusal why
    → IfOk result (λ o. o ≡ refused_why why) → OnOk result (why ≢ Memory) → IfOk result (λ o. o ≡ renewal_fault_by refusal m n)
fault_refused (Ok o) (Some refusal) m n why is said other = said ∙ ap refused_why is
fault_refused (Ok o) None m n why is said other = absurd (other is)
fault_refused (Err e) refusal m n why is said other = tt

-- or that the next state is another one, where it is granted
pub fault_granted :
    {E : Type 0} (result : Result (Option Why) E) (refusal : Option RenewalError) (m n next : State) → refusal ≡ None → next ≡ renewed m n.fleet.jobs n.report_rounds → IfOk result (λ o. o ≡ (if same_history next n then None else Some OtherState))
    → IfOk result (λ o. o ≡ renewal_fault_by refusal m n)
fault_granted (Ok o) None m n next granted is said = said ∙ ap (λ (s : State). (let w : Option Why = if same_history s n then None else Some OtherState in w)) is
fault_granted (Ok o) (Some refusal) m n next granted is said = cc
fault_granted (Err e) refusal m n next granted is said = tt
