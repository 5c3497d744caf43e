use Rattle.std.proofs.Common.{rules}
use Rattle.session_rounds.proofs.StopLemmas.{turns_stop}
use Rattle.session_rounds.proofs.rounds.run_one.Goals as goal

pub returns-clause-stopped : goal.returns-clause-stopped
returns-clause-stopped g c = turns_stop g.S.Scrape.may_fetch g.N.DeskName.opening c.args.jobs.now c.args.workers.now _ c.all_done.result c.all_done.ensures.stopped (search rules)
