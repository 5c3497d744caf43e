use Rattle.std.proofs.Common.{List, ap, ◌∙◌}
use Rattle.reach_rules.specs.Table.{ReachRow, is_reached_at}
use Rattle.fleet.specs.Fleet.{FleetState}
use Rattle.fleet.specs.Reached.{reaches_at}
use Rattle.fleet.proofs.ReachedLemmas.{read_at}
use Rattle.fleet.proofs.fleet.Fleet.reaches.Goals as goal

pub returns : goal.returns
returns c =
    c.reaches_at.ensures ∙ ap (λ (rows : List ReachRow). is_reached_at rows c.args.place c.args.number) c.self.invariant.1 ∙ read_at c.self.inside.collectors.items c.self.inside.known.keys c.args.place c.args.number
    ∙ ap (λ (fleet : FleetState). reaches_at fleet c.args.place c.args.number) c.self.view_is
