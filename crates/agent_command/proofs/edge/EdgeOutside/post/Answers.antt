use Rattle.std.proofs.Common.{length, take}
use Rattle.agent_command.proofs.TraceLemmas.{all_run}
use Rattle.agent_command.proofs.edge.EdgeOutside.post.Goals as goal

pub returns : goal.returns
returns g c = record {
  count = length c.args.reports.now;
  run = all_run c.args.self.now (take (length c.args.reports.now) c.args.reports.now);
}
