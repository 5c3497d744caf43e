use Rattle.std.proofs.Common.{sym}
use Rattle.sd_server.proofs.handler.Handler.groups.Goals as goal

pub returns-in-Some-clause-text : goal.returns-in-Some-clause-text
returns-in-Some-clause-text g c = let told = c.in_ok-known.ensures c.args.seen.now c.now.ensures.opening (sym c.now.ensures.front) in rw c.in-Some.is at told
