use Rattle.std.proofs.Common.{◌≡◌, ◌++◌, ◌∷◌, [], Some, OnOk, ap, map, subst}
use Rattle.reach_rules.specs.Table.{ReachRow}
use Rattle.fleet.specs.Fleet.{FleetState}
use Rattle.fleet.specs.Reached.{targets_at, targets_of}
use Rattle.fleet.proofs.ReachedLemmas.{row_from}
use Rattle.fleet.proofs.fleet.Fleet.join_at.Goals as goal

pub returns-then-has_reach : goal.returns-then-has_reach
returns-then-has_reach c =
    let known : c.self.inside.known.keys ≡ c.args.self.now.known = ap (λ (f : FleetState). f.known) c.self.view_is in
    let targets : targets_at c.self.inside.known.keys c.args.numbers.now ≡ map Some (targets_of c.args.known.now) = rw known c.requires in
    let same = rw c.as_slice.ensures.value at (c.has_reach.ensures c.if-has_reach.true) in
    let row =
    row_from c.args.collector.now.id c.args.collector.now.reach c.self.inside.table.rows c.self.inside.collectors.items c.self.inside.known.keys c.args.known.now c.args.place c.args.numbers.now c.self.invariant.1 same targets in
    subst (λ (r : ReachRow). OnOk c.join_as.result (c.join_as.new.self.rows ≡ c.args.table.now.rows ++ r ∷ [])) row c.join_as.ensures.ok
