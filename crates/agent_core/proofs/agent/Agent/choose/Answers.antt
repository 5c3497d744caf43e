use Rattle.std.proofs.Common.{◌∙◌, sym}
use Rattle.agent_core.proofs.CutLemmas.{cut_after}
use Rattle.agent_core.proofs.agent.Agent.choose.Goals as goal

pub returns-clause-err : goal.returns-clause-err
returns-clause-err c =
    cut_after c.choose_all.result _ c.args.self.now c.choose_all.new.memory c.as_slice-targets.result.now c.args.now c.args.said.now.entries c.args.lasts.now.entries c.self.view_is c.as_slice-targets.ensures.keys
    (sym c.may_report.ensures ∙ c.if-not-may_report.false) c.choose_all.ensures.err
