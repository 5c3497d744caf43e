use Rattle.std.proofs.Common.{◌≡◌, ◌++◌, ◌∷◌, [], IsTrue, OnOk, subst}
use Rattle.reach_rules.specs.Table.{ReachRow}
use Rattle.fleet.proofs.ReachedLemmas.{row_copied}
use Rattle.fleet.proofs.fleet.Fleet.join_behind.Goals as goal

pub returns-then-has_reach : goal.returns-then-has_reach
returns-then-has_reach c =
    let like : IsTrue c.has_reach.result = cc in
    let row = row_copied c.args.collector.now.id c.args.collector.now.reach c.args.table.now.rows c.args.joined.now c.args.known.now _ c.requires.joined (c.has_reach.ensures like) in
    subst (λ (r : ReachRow). OnOk c.join_like.result (c.join_like.new.self.rows ≡ c.args.table.now.rows ++ r ∷ [])) row c.join_like.ensures.ok
