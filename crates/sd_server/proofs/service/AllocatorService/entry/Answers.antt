use Rattle.std.proofs.Common.{[]}
use Rattle.std.specs.Arc.{arc_value}
use Rattle.sd_server.proofs.ComingLemmas.{kept_comes, says_comes}
use Rattle.sd_server.proofs.service.AllocatorService.entry.Goals as goal

pub returns-in-Some-clause-says : goal.returns-in-Some-clause-says
returns-in-Some-clause-says g c =
    let handler = c.args.self.now.handler in
    λ said may. says_comes handler.kept g.N.JournalName.keeps c.document.new.seen c.in-Some.said said (arc_value handler.pages) c.args.ask.now [] c.in-Some.ensures.says (c.once_kept.ensures said may)

pub returns-in-Some-clause-kept : goal.returns-in-Some-clause-kept
returns-in-Some-clause-kept g c =
    let handler = c.args.self.now.handler in λ said may. kept_comes handler.kept g.N.JournalName.keeps c.document.new.seen c.in-Some.said said (c.once_kept.ensures said may)
