use Rattle.std.proofs.Common.{◌≡◌, ℕ, ◌+◌, ◌++◌, ◌∷◌, [], false, List, None, ap, arith, refl, sym, ◌∙◌}
use Rattle.std.proofs.lemmas.Grind.{common_steps}
use Rattle.reach_rules.specs.Table.{ReachRow, row_of}
use Rattle.fleet.specs.Fleet.{id_named}
use Rattle.fleet.specs.Reached.{reach_rows, targets_of}
use Rattle.fleet.specs.declared.collector.Collector.{Collector}
use Rattle.fleet.specs.declared.known_target.KnownTarget.{KnownTarget}
use Rattle.fleet.proofs.KeptLemmas.{joined_kept}
use Rattle.fleet.proofs.ReachedLemmas.{rows_joined}
use Rattle.fleet.proofs.fleet.Fleet.join.Goals as goal

pub invariant_of-self-2 : goal.invariant_of-self-2
invariant_of-self-2 c =
    let none : id_named c.self.inside.collectors.items c.args.name ≡ None =
    ap (λ (cs : List Collector). id_named cs c.args.name) (sym c.as_slice-2.ensures.value) ∙ ap (λ (name : List ℕ). id_named c.as_slice-2.result.now name) (sym c.as_str.ensures.text) ∙ sym c.in_default.ensures in
    let joins : Collector = record { id = c.self.inside.last_collector + 1; name = c.args.name; reach = c.args.reach; draining = false; limits = c.args.limits } in
    let collectors = c.self.inside.collectors.items in
    let known = c.self.inside.known.keys in
    let items : c.push_reserved.new.self.items ≡ collectors ++ joins ∷ [] = c.push_reserved.ensures.items ∙ ap (λ (cs : List Collector). cs ++ joins ∷ []) c.reserve.ensures.items in
    let rows =
    c.in_ok-join.ensures.ok
    ∙ ap (λ (ks : List KnownTarget). c.self.inside.table.rows ++ row_of joins.id joins.reach (targets_of ks) ∷ []) c.as_slice-3.ensures.keys
    ∙ ap (λ (rows : List ReachRow). rows ++ row_of joins.id joins.reach (targets_of known) ∷ []) c.self.invariant.1
    ∙ rows_joined collectors joins known
    ∙ ap (λ (cs : List Collector). reach_rows cs known) (sym items) in
    (joined_kept _ joins c.push_reserved.new.self.items c.self.invariant.0 none refl (omega arith) (grind (arith, common_steps)) (omega arith) items, rows, c.self.invariant.2)
