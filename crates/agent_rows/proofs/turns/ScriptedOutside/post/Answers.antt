use Rattle.std.proofs.Common.{length, take}
use Rattle.agent_rows.proofs.TraceLemmas.{all_run}
use Rattle.agent_rows.proofs.turns.ScriptedOutside.post.Goals as goal

pub returns : goal.returns
returns c = record {
  count = length c.args.reports.now;
  run = all_run c.args.self.now (take (length c.args.reports.now) c.args.reports.now);
}
