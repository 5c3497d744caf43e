use Rattle.std.proofs.Common.{inl}
use Rattle.std.specs.Arc.{arc_value}
use Rattle.sd_server.specs.Says.{SaysIn}
use Rattle.sd_server.proofs.ComingLemmas.{kept_comes, says_comes}
use Rattle.sd_server.proofs.handler.Handler.entry.Goals as goal

pub returns-in-Reload-clause-says : goal.returns-in-Reload-clause-says
unfolding SaysIn
returns-in-Reload-clause-says g c = rw c.in-Reload.is (λ said may. (0, inl (c.reload.ensures said may)))

pub returns-in_default : goal.returns-in_default
returns-in_default g c =
    let kept = c.args.self.now.kept in
    let keeps = g.N.JournalName.keeps in
    let span = c.said-said.new.seen in
    let saying = c.said-said.result in
    record {
      says = λ said may. says_comes kept keeps span saying said (arc_value c.args.self.now.pages) c.args.ask.now c.args.body.now (c.args.self.now.epoch, c.said-said.ensures.says) (c.once_kept.ensures said may);
      kept = λ said may. kept_comes kept keeps span saying said (c.once_kept.ensures said may);
      moves = c.said-said.ensures.moves;
    }
