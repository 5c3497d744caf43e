use Rattle.fleet_assignment.proofs.Shapes.{parts_shaped, parts_make}
use Rattle.price_certificate.specs.Rows.{rows_of}
use Rattle.fleet_assignment.proofs.instance.instance.Goals as goal

pub made-requires : goal.made-requires
made-requires c =
    parts_shaped c.args.jobs.now c.args.collectors.now c.args.known.now c.args.live.now c.as_slice.result.now c.in_ok-limits.limits.items c.in_ok-draining.draining.items (rows_of c.args.rows) c.in_ok-before.before.items c.requires.homes c.requires.bins c.requires.collectors c.requires.live
    c.in_ok-limits.ensures c.in_ok-draining.ensures c.requires.rows c.in_ok-before.ensures

pub returns : goal.returns
returns c =
    parts_make c.args.jobs.now c.args.collectors.now c.args.known.now c.args.live.now c.args.pairs.now c.in_ok-holders.holders.items c.as_slice.result.now c.in_ok-limits.limits.items c.in_ok-draining.draining.items (rows_of c.args.rows) c.in_ok-before.before.items c.in_ok-instance.instance
    c.requires.numbers c.in_ok-holders.ensures.each c.in_ok-holders.ensures.placed c.as_slice.ensures.value c.in_ok-limits.ensures c.in_ok-draining.ensures c.requires.rows c.in_ok-before.ensures c.in_ok-instance.ensures
