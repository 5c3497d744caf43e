use Rattle.std.proofs.Common.{◌≡◌, ℕ, ◌+◌, ◌<◌, Bool, ◌++◌, List, ap, arith, cond, drop, eq-eqb, get_or, length, length-drop, map, sym, take, ◌∙◌}
use Rattle.std.specs.Prelude.{AllPairs}
use Rattle.std.proofs.Math.ListN.{set}
use Rattle.std.proofs.lemmas.Bool.{ne_eqb}
use Rattle.std.proofs.lemmas.List.{get_or-drop, get_or_default, map-append, set-get_or, take-append-drop}
use Rattle.std.proofs.lemmas.List.Edits.{map_over_more}
use Rattle.std.proofs.lemmas.List.Folds.{map_fixed}
use Rattle.reach_rules.specs.OwnLimits.{LimitList}
use Rattle.fleet.specs.Changes.{with_limits_at}
use Rattle.fleet.specs.declared.collector.Collector.{Collector}
use Rattle.fleet.proofs.collector.replace_limits.Goals as goal

limits_here : (id : ℕ) (limits : LimitList) (c : Collector) → c.id ≡ id → with_limits_at id limits c ≡ record c { limits = limits }
limits_here id limits c is = ap (λ (b : Bool). (let d : Collector = record c { limits = cond b limits c.limits } in d)) (eq-eqb c.id id is)

limits_elsewhere : (id : ℕ) (limits : LimitList) (c : Collector) → (c.id ≡ id → ⊥) → with_limits_at id limits c ≡ c
limits_elsewhere id limits c other = ap (λ (b : Bool). (let d : Collector = record c { limits = cond b limits c.limits } in d)) (ne_eqb c.id id other)

-- behind the collector of the number all numbers are above it
rest_same :
    (id : ℕ) (limits : LimitList) (cs : List Collector) (i : ℕ) (c : Collector) → AllPairs (λ (a b : Collector). a.id < b.id) cs → i < length cs → (get_or cs i c).id ≡ id
    → map (with_limits_at id limits) (drop (i + 1) cs) ≡ drop (i + 1) cs
rest_same id limits cs i c rising within is =
    map_fixed (with_limits_at id limits) (drop (i + 1) cs)
    (λ k d less.
    let behind : i + 1 + k < length cs = omega (arith, length-drop (i + 1) cs) in
    let above : (get_or cs i d).id < (get_or cs (i + 1 + k) d).id = rising i (i + 1 + k) d (omega arith) behind in
    let here : (get_or cs i d).id ≡ id = ap (λ (x : Collector). x.id) (get_or_default cs i d c within) ∙ is in
    rw (get_or-drop (i + 1) cs k d) (limits_elsewhere id limits (get_or cs (i + 1 + k) d) (λ same. absurd (omega arith))))

pub loop-collector-preserved : goal.loop-collector-preserved
loop-collector-preserved c =
    let same = set-get_or c.loop-collector.collectors c.loop-collector.collector-index c.collector-item.result in
    let write = λ (x : Collector). set c.loop-collector.collectors c.loop-collector.collector-index x in
    let more = map_over_more (with_limits_at c.args.id c.args.limits) c.args.collectors.now c.loop-collector.collectors c.loop-collector.collector-index c.collector-item.result c.loop-collector-test.true c.loop-collector.invariant.others c.collector-item.is in
    record {
      same = same ∙ c.loop-collector.invariant.same;
      others = ap write (sym (limits_elsewhere c.args.id c.args.limits _ c.if-collector-id.false)) ∙ ap (λ (x : Collector). write (with_limits_at c.args.id c.args.limits x)) (sym c.collector-item.is) ∙ more;
    }

pub returns-then-collector-id : goal.returns-then-collector-id
returns-then-collector-id c =
    let change = with_limits_at c.args.id c.args.limits in
    let i : ℕ = c.loop-collector.collector-index in
    let write = λ (x : Collector). set c.loop-collector.collectors i x in
    let more = map_over_more change c.args.collectors.now c.loop-collector.collectors i c.collector-item.result c.loop-collector-test.true c.loop-collector.invariant.others c.collector-item.is in
    let rest = rest_same c.args.id c.args.limits c.args.collectors.now i c.collector-item.result c.requires c.loop-collector-test.true (ap (λ (cs : List Collector). (get_or cs i c.collector-item.result).id) (sym c.loop-collector.invariant.same) ∙ c.if-collector-id.true) in
    ap write (sym (limits_here c.args.id c.args.limits _ c.if-collector-id.true)) ∙ ap (λ (x : Collector). write (change x)) (sym c.collector-item.is) ∙ more
    ∙ ap (λ (cs : List Collector). map change (take (i + 1) c.args.collectors.now) ++ cs) (sym rest)
    ∙ sym (map-append change (take (i + 1) c.args.collectors.now) (drop (i + 1) c.args.collectors.now))
    ∙ ap (λ (cs : List Collector). map change cs) (take-append-drop (i + 1) c.args.collectors.now)
