use Rattle.session_rounds.proofs.RoundLemmas.{had_turns}
use Rattle.session_rounds.proofs.rounds.run_turns.Goals as goal

pub returns : goal.returns
returns g c = had_turns g.S.Scrape.may_fetch g.N.DeskName.opening c.args.jobs.now c.args.workers.now c.run_round.new.workers c.run_round.auto.workers c.run_round.ensures.turned c.run_round.ensures.ids
