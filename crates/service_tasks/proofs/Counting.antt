-- What is counted of a certificate that a history has.
use Rattle.std.proofs.Common.{◌≡◌, ◌∙◌}
use Rattle.std.specs.Prelude.{Option, Result, Ok, Err, IfOk}
use Rattle.price_certificate.specs.Faults.{verdict_of}
use Rattle.price_certificate.specs.Problem.{Problem}
use Rattle.price_certificate.specs.declared.plan.Plan.{Plan}
use Rattle.allocation_core.specs.State.{State}
use Rattle.alloc_desk.specs.Counts.{Counts}
use Rattle.alloc_desk.specs.Reached.{Reached}
use Rattle.service_tasks.specs.Published.{changes_at, changes_in}
use Rattle.service_tasks.specs.declared.publishing.Changes.{Changes}

-- what is counted of an instance and a plan that were told together
pub changes_told :
    {E : Type 0} (opening : State) (counts : Counts) (instance : Problem) (plan : Plan) (counted : Result (Option Changes) E)
    → Reached opening counts (λ h. (instance ≡ h.state.problem) × (plan ≡ h.state.plan))
    → IfOk counted (λ changes. changes ≡ changes_in (verdict_of instance plan.pairs plan.item_prices plan.bin_prices))
    → IfOk counted (λ changes. Reached opening counts (λ h. changes ≡ changes_at h.state))
changes_told opening counts instance plan (Err e) told is = tt
changes_told opening counts instance plan (Ok changes) told is =
    record {
      history = told.history;
      legal = told.legal;
      calls = told.calls;
      booked = told.booked;
      holds = is ∙ (λ k. changes_in (verdict_of (told.holds.0 k) (told.holds.1 k).pairs (told.holds.1 k).item_prices (told.holds.1 k).bin_prices));
    }
