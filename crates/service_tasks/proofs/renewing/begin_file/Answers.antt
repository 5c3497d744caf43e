use Rattle.service_tasks.proofs.Renewals.{begun_leads}
use Rattle.service_tasks.proofs.renewing.begin_file.Goals as goal

pub returns-in-Ok : goal.returns-in-Ok
returns-in-Ok g c =
    begun_leads g.F.Device.tells g.F.Write.contents c.args.core.now c.args.first c.in-Some.first c.in-Ok.begun c.begun.result c.replace.new.dest c.in-Some.is c.requires c.in-Ok.ensures.form c.begun.ensures c.replace.ensures.after
