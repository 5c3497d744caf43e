use Rattle.std.proofs.Common.{sym, true, false}
use Rattle.allocation_core.specs.State.{State}
use Rattle.allocation_core.proofs.AnswerLemmas.{in_open_round}
use Rattle.allocation_core.proofs.machine.Core.round_refusal.Goals as goal

pub returns-then-is_booked : goal.returns-then-is_booked
returns-then-is_booked c =
    let s : State =
    record {
      fleet = c.self.inside.fleet;
      published = c.self.inside.holders.published;
      problem = c.self.inside.instance;
      plan = c.self.inside.plan;
      taken = c.self.inside.holders.taken;
      served = c.self.inside.served;
      round = c.self.inside.round;
      booked = c.self.inside.books;
      begun = c.self.inside.begun;
      report_rounds = c.self.inside.report_rounds;
    } in
    sym (in_open_round c.args.self.now s c.args.target c.args.round c.first_round-first.result c.is_booked.result true c.self.view_is c.self.invariant.past_rounds c.first_round-first.ensures.first c.first_round-first.ensures.near c.if-round-first.false c.if-round-self.false c.is_booked.ensures c.if-is_booked.true)

pub returns : goal.returns
returns c =
    let s : State =
    record {
      fleet = c.self.inside.fleet;
      published = c.self.inside.holders.published;
      problem = c.self.inside.instance;
      plan = c.self.inside.plan;
      taken = c.self.inside.holders.taken;
      served = c.self.inside.served;
      round = c.self.inside.round;
      booked = c.self.inside.books;
      begun = c.self.inside.begun;
      report_rounds = c.self.inside.report_rounds;
    } in
    sym (in_open_round c.args.self.now s c.args.target c.args.round c.first_round-first.result c.is_booked.result false c.self.view_is c.self.invariant.past_rounds c.first_round-first.ensures.first c.first_round-first.ensures.near c.if-round-first.false c.if-round-self.false c.is_booked.ensures c.if-is_booked.false)
