use Rattle.std.proofs.Common.{refl, subst, sym, true, false}
use Rattle.fleet_events.specs.declared.event.Event.TheVariants.{Leave}
use Rattle.allocation_core.specs.State.{State}
use Rattle.allocation_core.specs.Kept.{IsKept}
use Rattle.allocation_core.proofs.FleetSteps.{leave_answer, leave_state}
use Rattle.allocation_core.proofs.StepLemmas.{step_kept}
use Rattle.allocation_core.proofs.machine.Core.leave.Goals as goal

pub invariant_of-self : goal.invariant_of-self
invariant_of-self c =
    let s : State =
    record {
      fleet = c.self.inside.fleet;
      published = c.self.inside.holders.published;
      problem = c.self.inside.instance;
      plan = c.self.inside.plan;
      taken = c.self.inside.holders.taken;
      served = c.self.inside.served;
      round = c.self.inside.round;
      booked = c.self.inside.books;
      begun = c.self.inside.begun;
      report_rounds = c.self.inside.report_rounds;
    } in
    subst IsKept (sym (leave_state s s c.leave.new.self c.args.id refl c.leave.ensures.state)) (step_kept s (Leave c.args.id) c.self.invariant)

pub returns-then-not-leave-clause-answer : goal.returns-then-not-leave-clause-answer
returns-then-not-leave-clause-answer c =
    let s : State =
    record {
      fleet = c.self.inside.fleet;
      published = c.self.inside.holders.published;
      problem = c.self.inside.instance;
      plan = c.self.inside.plan;
      taken = c.self.inside.holders.taken;
      served = c.self.inside.served;
      round = c.self.inside.round;
      booked = c.self.inside.books;
      begun = c.self.inside.begun;
      report_rounds = c.self.inside.report_rounds;
    } in
    leave_answer s c.args.self.now c.args.id false c.self.view_is c.if-not-leave.ensures.was

pub returns-then-not-leave-clause-state : goal.returns-then-not-leave-clause-state
returns-then-not-leave-clause-state c =
    let s : State =
    record {
      fleet = c.self.inside.fleet;
      published = c.self.inside.holders.published;
      problem = c.self.inside.instance;
      plan = c.self.inside.plan;
      taken = c.self.inside.holders.taken;
      served = c.self.inside.served;
      round = c.self.inside.round;
      booked = c.self.inside.books;
      begun = c.self.inside.begun;
      report_rounds = c.self.inside.report_rounds;
    } in
    leave_state s c.args.self.now c.leave.new.self c.args.id c.self.view_is c.leave.ensures.state

pub invariant_of-self-2 : goal.invariant_of-self-2
invariant_of-self-2 c =
    let s : State =
    record {
      fleet = c.self.inside.fleet;
      published = c.self.inside.holders.published;
      problem = c.self.inside.instance;
      plan = c.self.inside.plan;
      taken = c.self.inside.holders.taken;
      served = c.self.inside.served;
      round = c.self.inside.round;
      booked = c.self.inside.books;
      begun = c.self.inside.begun;
      report_rounds = c.self.inside.report_rounds;
    } in
    subst IsKept (sym (leave_state s s c.leave.new.self c.args.id refl c.leave.ensures.state)) (step_kept s (Leave c.args.id) c.self.invariant)

pub returns-clause-answer : goal.returns-clause-answer
returns-clause-answer c =
    let s : State =
    record {
      fleet = c.self.inside.fleet;
      published = c.self.inside.holders.published;
      problem = c.self.inside.instance;
      plan = c.self.inside.plan;
      taken = c.self.inside.holders.taken;
      served = c.self.inside.served;
      round = c.self.inside.round;
      booked = c.self.inside.books;
      begun = c.self.inside.begun;
      report_rounds = c.self.inside.report_rounds;
    } in
    leave_answer s c.args.self.now c.args.id true c.self.view_is c.if-not-leave.ensures.was

pub returns-clause-state : goal.returns-clause-state
returns-clause-state c =
    let s : State =
    record {
      fleet = c.self.inside.fleet;
      published = c.self.inside.holders.published;
      problem = c.self.inside.instance;
      plan = c.self.inside.plan;
      taken = c.self.inside.holders.taken;
      served = c.self.inside.served;
      round = c.self.inside.round;
      booked = c.self.inside.books;
      begun = c.self.inside.begun;
      report_rounds = c.self.inside.report_rounds;
    } in
    leave_state s c.args.self.now c.leave.new.self c.args.id c.self.view_is c.leave.ensures.state
