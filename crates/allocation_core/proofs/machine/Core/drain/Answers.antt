use Rattle.std.proofs.Common.{refl, subst, sym}
use Rattle.fleet_events.specs.declared.event.Event.TheVariants.{Drain}
use Rattle.allocation_core.specs.State.{State}
use Rattle.allocation_core.specs.Kept.{IsKept}
use Rattle.allocation_core.proofs.FleetSteps.{drain_answer, drain_state}
use Rattle.allocation_core.proofs.StepLemmas.{step_kept}
use Rattle.allocation_core.proofs.machine.Core.drain.Goals as goal

pub invariant_of-self : goal.invariant_of-self
invariant_of-self c =
    let s : State =
    record {
      fleet = c.self.inside.fleet;
      published = c.self.inside.holders.published;
      problem = c.self.inside.instance;
      plan = c.self.inside.plan;
      taken = c.self.inside.holders.taken;
      served = c.self.inside.served;
      round = c.self.inside.round;
      booked = c.self.inside.books;
      begun = c.self.inside.begun;
      report_rounds = c.self.inside.report_rounds;
    } in
    subst IsKept (sym (drain_state s s c.drain-draining.new.self c.args.id refl c.drain-draining.ensures.state)) (step_kept s (Drain c.args.id) c.self.invariant)

pub returns-clause-answer : goal.returns-clause-answer
returns-clause-answer c =
    let s : State =
    record {
      fleet = c.self.inside.fleet;
      published = c.self.inside.holders.published;
      problem = c.self.inside.instance;
      plan = c.self.inside.plan;
      taken = c.self.inside.holders.taken;
      served = c.self.inside.served;
      round = c.self.inside.round;
      booked = c.self.inside.books;
      begun = c.self.inside.begun;
      report_rounds = c.self.inside.report_rounds;
    } in
    drain_answer s c.args.self.now c.answer_to_draining.result c.drain-draining.result c.args.id c.self.view_is c.drain-draining.ensures.draining c.answer_to_draining.ensures

pub returns-clause-state : goal.returns-clause-state
returns-clause-state c =
    let s : State =
    record {
      fleet = c.self.inside.fleet;
      published = c.self.inside.holders.published;
      problem = c.self.inside.instance;
      plan = c.self.inside.plan;
      taken = c.self.inside.holders.taken;
      served = c.self.inside.served;
      round = c.self.inside.round;
      booked = c.self.inside.books;
      begun = c.self.inside.begun;
      report_rounds = c.self.inside.report_rounds;
    } in
    drain_state s c.args.self.now c.drain-draining.new.self c.args.id c.self.view_is c.drain-draining.ensures.state
