use Rattle.std.proofs.Common.{◌≡◌, ◌≤◌, ℕ, List, All, ap, subst, sym, ◌∙◌}
use Rattle.fleet.specs.Fleet.{FleetState}
use Rattle.fleet_renewal.specs.Renewed.{renewed_fleet, renewed_slots}
use Rattle.served_lists.specs.Served.{Served}
use Rattle.allocation_core.specs.State.{State, current_pairs}
use Rattle.allocation_core.proofs.RenewedLemmas.{slots_given}
use Rattle.allocation_core.proofs.machine.Core.carried.Goals as goal

pub returns-in-Ok-carried_over-clause-given : goal.returns-in-Ok-carried_over-clause-given
returns-in-Ok-carried_over-clause-given c =
    let s : State =
    record {
      fleet = c.self.inside.fleet;
      published = c.self.inside.holders.published;
      problem = c.self.inside.instance;
      plan = c.self.inside.plan;
      taken = c.self.inside.holders.taken;
      served = c.self.inside.served;
      round = c.self.inside.round;
      booked = c.self.inside.books;
      begun = c.self.inside.begun;
      report_rounds = c.self.inside.report_rounds;
    } in
    let jobs = c.args.jobs.items in
    let fleet : c.in-Ok.renewed.fleet ≡ renewed_fleet s.fleet (current_pairs s) s.served.slots jobs =
    c.in-Ok.ensures.fleet ∙ (λ i. renewed_fleet s.fleet (c.current_pairs-pairs.ensures.pairs i) (c.slots.ensures i) jobs) in
    let slots : c.carried_over-served.result.slots ≡ renewed_slots s.fleet (current_pairs s) s.served.slots jobs =
    ap (λ (served : Served). served.slots) c.carried_over-served.ensures ∙ c.into_vec.ensures ∙ c.in-Ok.ensures.slots ∙ (λ i. renewed_slots s.fleet (c.current_pairs-pairs.ensures.pairs i) (c.slots.ensures i) jobs) in
    subst (λ (f : FleetState). All (λ (collector : ℕ). collector ≤ f.last_collector) c.carried_over-served.result.slots) (sym fleet)
    (subst (λ (all : List ℕ). All (λ (collector : ℕ). collector ≤ (renewed_fleet s.fleet (current_pairs s) s.served.slots jobs).last_collector) all) (sym slots) (slots_given s jobs c.self.invariant))
