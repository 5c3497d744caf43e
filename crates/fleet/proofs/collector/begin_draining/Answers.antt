use Rattle.std.proofs.Common.{◌≡◌, ℕ, Bool, true, ◌||◌, ap, eq-eqb, sym, ◌∙◌}
use Rattle.std.proofs.Math.Bool.{or-true, or-false}
use Rattle.std.proofs.Math.ListN.{set}
use Rattle.std.proofs.lemmas.Bool.{ne_eqb}
use Rattle.std.proofs.lemmas.List.Edits.{map_over_more}
use Rattle.fleet.specs.Changes.{with_draining_at}
use Rattle.fleet.specs.declared.collector.Collector.{Collector}
use Rattle.fleet.proofs.collector.begin_draining.Goals as goal
use Rattle.fleet.proofs.collector.begin_draining.Goals.{then-collector-id, else-collector-id}

marked_here : (id : ℕ) (c : Collector) → c.id ≡ id → with_draining_at id c ≡ record c { draining = true }
marked_here id c is =
    let mark = λ (b : Bool). (let d : Collector = record c { draining = b } in d) in
    ap mark (ap (λ (b : Bool). c.draining || b) (eq-eqb c.id id is) ∙ or-true c.draining)

unmarked_elsewhere : (id : ℕ) (c : Collector) → (c.id ≡ id → ⊥) → with_draining_at id c ≡ c
unmarked_elsewhere id c other =
    let mark = λ (b : Bool). (let d : Collector = record c { draining = b } in d) in
    ap mark (ap (λ (b : Bool). c.draining || b) (ne_eqb c.id id other) ∙ or-false c.draining)

pub loop-collector-preserved : goal.loop-collector-preserved
loop-collector-preserved c =
    let write = λ (x : Collector). set c.loop-collector.collectors c.loop-collector.collector-index x in
    let more = map_over_more (with_draining_at c.args.id) c.args.collectors.now c.loop-collector.collectors c.loop-collector.collector-index c.collector-item.result c.loop-collector-test.true c.loop-collector.invariant c.collector-item.is in
    let read = ap (λ (x : Collector). write (with_draining_at c.args.id x)) (sym c.collector-item.is) in
    elim c.if-collector-id.branch [
      | then-collector-id w ↦ w.collectors-is ∙ ap write (sym (marked_here c.args.id _ w.if-collector-id.true)) ∙ read ∙ more
      | else-collector-id w ↦ w.collectors-is ∙ ap write (sym (unmarked_elsewhere c.args.id _ w.if-collector-id.false)) ∙ read ∙ more
    ]
