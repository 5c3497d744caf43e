use Rattle.fleet_renewal.proofs.CarriedLemmas.{ascends}
use Rattle.fleet_renewal.proofs.SlotLemmas.{slots_fit}
use Rattle.fleet_renewal.proofs.renewing.renew_fleet.Goals as goal

pub returns-in-Ok-clause-ascending : goal.returns-in-Ok-clause-ascending
returns-in-Ok-clause-ascending c = λ ascending. ascends c.args.fleet.now c.args.pairs.now c.in-Ok.renewed.pairs c.args.slots.now c.args.jobs.items c.in-Ok.ensures.pairs ascending

pub returns-in-Ok-clause-slots_fit : goal.returns-in-Ok-clause-slots_fit
returns-in-Ok-clause-slots_fit c = slots_fit c.args.fleet.now c.in-Ok.renewed.fleet c.args.pairs.now c.args.slots.now c.in-Ok.renewed.slots c.args.jobs.items c.in-Ok.ensures.fleet c.in-Ok.ensures.slots
