use Rattle.sd_server.proofs.OpenLemmas.{moved}
use Rattle.sd_server.proofs.handler.Handler.books_asked.Goals as goal

pub returns-clause-moves : goal.returns-clause-moves
returns-clause-moves g c =
    moved g.N.DeskName.opening c.seen.inside.since c.seen.inside.latest c.read.new.self c.args.seen.now c.seen.view_is c.seen.invariant c.read.ensures.seen
