use Rattle.std.proofs.Common.{◌≡◌, ◌<◌, ◌≤◌, ℕ, true, List, Result, Ok, All, AllPairs, length, sym, ap, arith, subst, ◌∙◌}
use Rattle.fleet.specs.Parts.{fleet_of}
use Rattle.allocation_core.specs.State.{State, restored}
use Rattle.core_history.specs.History.{are_slots, is_allocation, slots_of, state_of}
use Rattle.core_history.specs.declared.error.HistoryError.{HistoryError}
use Rattle.core_history.proofs.Checking.{good_history, length-slots_of, slots_given}
use Rattle.core_history.proofs.restoring.restored.Goals as goal

pub restored-requires-clause-ascending : goal.restored-requires-clause-ascending
restored-requires-clause-ascending c = subst (λ (pairs : List (ℕ × ℕ)). AllPairs (λ (a b : ℕ × ℕ). a.0 < b.0) pairs) c.as_slice.ensures (c.is_allocation.ensures.ascending c.if-not-is_allocation.false)

pub restored-requires-clause-few : goal.restored-requires-clause-few
restored-requires-clause-few c = omega (arith, ap (λ (slots : List ℕ). length slots) c.in-Ok-slots_of.ensures, length-slots_of c.in-Ok.fleet c.args.history.served)

pub restored-requires-clause-given : goal.restored-requires-clause-given
restored-requires-clause-given c =
    subst (λ (slots : List ℕ). All (λ (collector : ℕ). collector ≤ c.in-Ok.fleet.last_collector) slots) (sym c.in-Ok-slots_of.ensures) (slots_given c.in-Ok.fleet c.args.history.served (sym c.if-not-are_slots.ensures))

pub returns-in-Ok-restored-clause-state : goal.returns-in-Ok-restored-clause-state
returns-in-Ok-restored-clause-state c =
    let h = c.args.history in
    let same : c.in-Ok.fleet ≡ fleet_of h.fleet = c.in-Ok.ensures.fleet.0 in
    let pairs : is_allocation (fleet_of h.fleet) h.allocation ≡ true = sym (c.if-not-is_allocation.ensures.is ∙ (λ i. is_allocation (same i) (c.as_slice.ensures i))) in
    let fits : are_slots (fleet_of h.fleet) h.served ≡ true = sym (c.if-not-are_slots.ensures ∙ (λ i. are_slots (same i) h.served)) in
    let slots : c.in-Ok-slots_of.slots.items ≡ slots_of (fleet_of h.fleet) h.served = c.in-Ok-slots_of.ensures ∙ (λ i. slots_of (same i) h.served) in
    let core : c.in-Ok-restored.core ≡ state_of h = c.in-Ok-restored.ensures ∙ (λ i. restored (same i) h.allocation (slots i) h.certificate.instance h.certificate.plan h.round (c.least.ensures i)) in
    good_history h c.in-Ok.ensures.fleet.1 pairs (omega (arith, c.if-round-eq0.false)) fits ∙ ap (λ (m : State). (let r : Result State HistoryError = Ok m in r)) (sym core)
