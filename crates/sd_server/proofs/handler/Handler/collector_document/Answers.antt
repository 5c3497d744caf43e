use Rattle.sd_server.proofs.handler.Handler.collector_document.Goals as goal

pub returns-in-Ok-Some : goal.returns-in-Ok-Some
returns-in-Ok-Some g c = λ span. c.collector_told.ensures span c.args.which.now
