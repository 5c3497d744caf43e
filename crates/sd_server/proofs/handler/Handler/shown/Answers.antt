use Rattle.sd_server.proofs.handler.Handler.shown.Goals as goal

-- what is asked is the list of this collector
pub returns-in-CollectorTargets-clause-says : goal.returns-in-CollectorTargets-clause-says
returns-in-CollectorTargets-clause-says g c = rw c.in-CollectorTargets.is c.collector.ensures.says
