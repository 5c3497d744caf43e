use Rattle.std.proofs.Common.{refl, subst, sym}
use Rattle.fleet_events.specs.declared.event.Event.TheVariants.{Join}
use Rattle.allocation_core.specs.State.{State}
use Rattle.allocation_core.specs.Kept.{IsKept}
use Rattle.allocation_core.proofs.FleetSteps.{join_answer, join_state}
use Rattle.allocation_core.proofs.StepLemmas.{step_kept}
use Rattle.allocation_core.proofs.machine.Core.join.Goals as goal

pub invariant_of-self-2 : goal.invariant_of-self-2
invariant_of-self-2 c =
    let s : State =
    record {
      fleet = c.self.inside.fleet;
      published = c.self.inside.holders.published;
      problem = c.self.inside.instance;
      plan = c.self.inside.plan;
      taken = c.self.inside.holders.taken;
      served = c.self.inside.served;
      round = c.self.inside.round;
      booked = c.self.inside.books;
      begun = c.self.inside.begun;
      report_rounds = c.self.inside.report_rounds;
    } in
    subst IsKept (sym (join_state s s c.join.new.self c.args.name c.args.reach c.args.limits refl c.in_ok-joining.ensures.state)) (step_kept s (Join c.args.name c.args.reach c.args.limits) c.self.invariant)

pub returns-clause-answer : goal.returns-clause-answer
returns-clause-answer c =
    let s : State =
    record {
      fleet = c.self.inside.fleet;
      published = c.self.inside.holders.published;
      problem = c.self.inside.instance;
      plan = c.self.inside.plan;
      taken = c.self.inside.holders.taken;
      served = c.self.inside.served;
      round = c.self.inside.round;
      booked = c.self.inside.books;
      begun = c.self.inside.begun;
      report_rounds = c.self.inside.report_rounds;
    } in
    join_answer s c.args.self.now c.answer_to_joining.result c.in_ok-joining.joining c.args.name c.args.reach c.args.limits c.self.view_is c.in_ok-joining.ensures.joining c.answer_to_joining.ensures

pub returns-clause-state : goal.returns-clause-state
returns-clause-state c =
    let s : State =
    record {
      fleet = c.self.inside.fleet;
      published = c.self.inside.holders.published;
      problem = c.self.inside.instance;
      plan = c.self.inside.plan;
      taken = c.self.inside.holders.taken;
      served = c.self.inside.served;
      round = c.self.inside.round;
      booked = c.self.inside.books;
      begun = c.self.inside.begun;
      report_rounds = c.self.inside.report_rounds;
    } in
    join_state s c.args.self.now c.join.new.self c.args.name c.args.reach c.args.limits c.self.view_is c.in_ok-joining.ensures.state
