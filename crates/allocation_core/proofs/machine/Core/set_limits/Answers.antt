use Rattle.std.proofs.Common.{refl, subst, sym}
use Rattle.fleet_events.specs.declared.event.Event.TheVariants.{SetLimits}
use Rattle.allocation_core.specs.State.{State}
use Rattle.allocation_core.specs.Kept.{IsKept}
use Rattle.allocation_core.proofs.FleetSteps.{limits_answer, limits_state}
use Rattle.allocation_core.proofs.StepLemmas.{step_kept}
use Rattle.allocation_core.proofs.machine.Core.set_limits.Goals as goal

pub invariant_of-self : goal.invariant_of-self
invariant_of-self c =
    let s : State =
    record {
      fleet = c.self.inside.fleet;
      published = c.self.inside.holders.published;
      problem = c.self.inside.instance;
      plan = c.self.inside.plan;
      taken = c.self.inside.holders.taken;
      served = c.self.inside.served;
      round = c.self.inside.round;
      booked = c.self.inside.books;
      begun = c.self.inside.begun;
      report_rounds = c.self.inside.report_rounds;
    } in
    subst IsKept (sym (limits_state s s c.set_limits-limiting.new.self c.args.id c.args.limits refl c.set_limits-limiting.ensures.state)) (step_kept s (SetLimits c.args.id c.args.limits) c.self.invariant)

pub returns-clause-answer : goal.returns-clause-answer
returns-clause-answer c =
    let s : State =
    record {
      fleet = c.self.inside.fleet;
      published = c.self.inside.holders.published;
      problem = c.self.inside.instance;
      plan = c.self.inside.plan;
      taken = c.self.inside.holders.taken;
      served = c.self.inside.served;
      round = c.self.inside.round;
      booked = c.self.inside.books;
      begun = c.self.inside.begun;
      report_rounds = c.self.inside.report_rounds;
    } in
    limits_answer s c.args.self.now c.answer_to_limiting.result c.set_limits-limiting.result c.args.id c.args.limits c.self.view_is c.set_limits-limiting.ensures.limiting c.answer_to_limiting.ensures

pub returns-clause-state : goal.returns-clause-state
returns-clause-state c =
    let s : State =
    record {
      fleet = c.self.inside.fleet;
      published = c.self.inside.holders.published;
      problem = c.self.inside.instance;
      plan = c.self.inside.plan;
      taken = c.self.inside.holders.taken;
      served = c.self.inside.served;
      round = c.self.inside.round;
      booked = c.self.inside.books;
      begun = c.self.inside.begun;
      report_rounds = c.self.inside.report_rounds;
    } in
    limits_state s c.args.self.now c.set_limits-limiting.new.self c.args.id c.args.limits c.self.view_is c.set_limits-limiting.ensures.state
