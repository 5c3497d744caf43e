use Rattle.assign_engine.proofs.Repricing.{end_free}
use Rattle.assign_engine.proofs.Pricing.{repriced, has_trail, still_waits}
use Rattle.assign_engine.proofs.Inserting.{way_after}
use Rattle.assign_engine.proofs.insert.improve.Goals as goal

pub returns-clause-sound : goal.returns-clause-sound
returns-clause-sound c =
    let old = c.args.matching.now in
    repriced c.args.instance.now old.seating.seats old.item_prices.items old.bin_prices.items c.args.item c.search.new.tables.distances c.search.new.tables.cost c.reprice.new.matching.item_prices.items c.reprice.new.matching.bin_prices.items c.is_problem.ensures c.requires.sound c.requires.new c.in_ok-search.ensures.searched c.reprice.ensures.repriced

pub returns-clause-waiting : goal.returns-clause-waiting
returns-clause-waiting c =
    let old = c.args.matching.now in
    still_waits c.args.instance.now old.seating.seats old.item_prices.items old.bin_prices.items c.args.item c.search.new.tables.distances c.search.new.tables.cost c.reprice.new.matching.item_prices.items c.reprice.new.matching.bin_prices.items c.is_problem.ensures c.requires.sound c.requires.new c.in_ok-search.ensures.searched c.reprice.ensures.repriced

pub returns-clause-way : goal.returns-clause-way
returns-clause-way c =
    let p = c.args.instance.now in
    let old = c.args.matching.now in
    let l = c.search.new.tables in
    let lower = c.reprice.new.matching.item_prices.items in
    let higher = c.reprice.new.matching.bin_prices.items in
    let e = c.in_ok-search.ensures in
    way_after p old.seating.seats old.item_prices.items lower higher c.args.item l.distances l.vias l.ranks l.cost l.end c.is_problem.ensures (returns-clause-sound c) e.ends
    (end_free p old.seating.seats old.item_prices.items old.bin_prices.items c.args.item l.distances l.cost c.is_problem.ensures c.requires.sound c.requires.new c.requires.item e.searched lower higher c.reprice.ensures.repriced l.end e.ends)
    (λ near. has_trail p old.seating.seats old.item_prices.items old.bin_prices.items c.args.item l.distances l.cost lower higher c.is_problem.ensures c.requires.sound c.requires.new e.searched c.reprice.ensures.repriced l.vias l.ranks e.parents near)
