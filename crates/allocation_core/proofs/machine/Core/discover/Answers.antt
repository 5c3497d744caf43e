use Rattle.std.proofs.Common.{refl, subst, sym}
use Rattle.fleet_events.specs.declared.event.Event.TheVariants.{Discover}
use Rattle.allocation_core.specs.State.{State}
use Rattle.allocation_core.specs.Kept.{IsKept}
use Rattle.allocation_core.proofs.FleetSteps.{list_answer, list_state}
use Rattle.allocation_core.proofs.StepLemmas.{step_kept}
use Rattle.allocation_core.proofs.machine.Core.discover.Goals as goal

pub invariant_of-self-2 : goal.invariant_of-self-2
invariant_of-self-2 c =
    let s : State =
    record {
      fleet = c.self.inside.fleet;
      published = c.self.inside.holders.published;
      problem = c.self.inside.instance;
      plan = c.self.inside.plan;
      taken = c.self.inside.holders.taken;
      served = c.self.inside.served;
      round = c.self.inside.round;
      booked = c.self.inside.books;
      begun = c.self.inside.begun;
      report_rounds = c.self.inside.report_rounds;
    } in
    subst IsKept (sym (list_state s s c.list.new.self c.as_str.result.now c.args.name c.args.source c.args.targets refl c.as_str.ensures c.in_ok-listing.ensures.state)) (step_kept s (Discover c.args.name c.args.source c.args.targets) c.self.invariant)

pub returns-clause-answer : goal.returns-clause-answer
returns-clause-answer c =
    let s : State =
    record {
      fleet = c.self.inside.fleet;
      published = c.self.inside.holders.published;
      problem = c.self.inside.instance;
      plan = c.self.inside.plan;
      taken = c.self.inside.holders.taken;
      served = c.self.inside.served;
      round = c.self.inside.round;
      booked = c.self.inside.books;
      begun = c.self.inside.begun;
      report_rounds = c.self.inside.report_rounds;
    } in
    list_answer s c.args.self.now c.answer_to_listing.result c.in_ok-listing.listing c.as_str.result.now c.args.name c.args.source c.args.targets c.self.view_is c.as_str.ensures c.in_ok-listing.ensures.listing c.answer_to_listing.ensures

pub returns-clause-state : goal.returns-clause-state
returns-clause-state c =
    let s : State =
    record {
      fleet = c.self.inside.fleet;
      published = c.self.inside.holders.published;
      problem = c.self.inside.instance;
      plan = c.self.inside.plan;
      taken = c.self.inside.holders.taken;
      served = c.self.inside.served;
      round = c.self.inside.round;
      booked = c.self.inside.books;
      begun = c.self.inside.begun;
      report_rounds = c.self.inside.report_rounds;
    } in
    list_state s c.args.self.now c.list.new.self c.as_str.result.now c.args.name c.args.source c.args.targets c.self.view_is c.as_str.ensures c.in_ok-listing.ensures.state
