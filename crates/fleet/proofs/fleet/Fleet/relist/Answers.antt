use Rattle.std.proofs.Common.{List, ap, arith, drop, length, ◌∙◌}
use Rattle.reach_rules.specs.Table.{ReachRow}
use Rattle.fleet.specs.Fleet.{FleetState}
use Rattle.fleet.specs.Reached.{rows_with}
use Rattle.fleet.proofs.LiveLemmas.{relisted_kept}
use Rattle.fleet.proofs.ReachedLemmas.{rows_grown}
use Rattle.fleet.proofs.fleet.Fleet.relist.Goals as goal

pub invariant_of-self : goal.invariant_of-self
invariant_of-self c =
    let known = c.self.inside.known.keys in
    let new = c.list.new.known.keys in
    let rows =
    (rw c.in-Ok-Ok.field-0-is at c.in-Ok-Ok.ensures.rows) ∙ ap (λ (rows : List ReachRow). rows_with rows (drop (length known) new)) c.self.invariant.1 ∙ rows_grown c.self.inside.collectors.items known new c.list.ensures.before in (
      relisted_kept _ c.args.job c.args.source c.args.targets c.list.new.listed.items new c.self.invariant.0 (omega (arith, c.requires.job, ap (λ (m : FleetState). length m.jobs) c.self.view_is))
          (rw c.in-Ok-Ok.field-0-is at c.in-Ok-Ok.ensures.listed) c.in-Ok-Ok.ensures.known (rw c.in-Ok-Ok.field-0-is at c.in-Ok-Ok.ensures.change).0,
      rows,
      c.self.invariant.2,
    )
