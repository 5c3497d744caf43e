use Rattle.std.proofs.Common.{subst}
use Rattle.agent_core.specs.Agents.{State}
use Rattle.agent_turns.specs.Turns.{Tried}
use Rattle.agent_turns.proofs.turning.turn.Goals as goal

pub returns : goal.returns
returns g c = record {
  at = c.now-at.result;
  shown = c.look-heard.result;
  outside = c.report-reported.new.outside;
  agent = c.report-reported.new.agent;
  reports = subst (λ (s : State). Tried g.O.Outside.may_act c.args.outside.now c.report-reported.new.outside s c.report-reported.new.agent) c.look-heard.ensures c.report-reported.ensures;
  take = c.take-took.ensures;
}
