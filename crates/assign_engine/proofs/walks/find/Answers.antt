use Rattle.std.proofs.Common.{ℕ, List, Contains, inl, inr, arith, sym, ◌∙◌, subst}
use Rattle.std.proofs.lemmas.List.Elements.{Contains-push_cases}
use Rattle.price_certificate.proofs.InstanceRows.{allowed_bin}
use Rattle.assign_engine.specs.Exact.{HasTables, IsOnWay}
use Rattle.assign_engine.specs.declared.walks.Walks.{Walks}
use Rattle.assign_engine.proofs.Exact.{entered_way, entered_on, entered_bins, entered_marks}
use Rattle.assign_engine.proofs.walks.find.Goals as goal
use Rattle.assign_engine.proofs.walks.find.Goals.{in-Some+in-Some-enter+in_ok-push-in-Some-enter, in-None+in-Some-back}

pub enter-requires-clause-distances : goal.enter-requires-clause-distances
enter-requires-clause-distances c = let l = allowed_bin c.args.instance.now c.is_problem.ensures c.loop.top c.in-Some.bin c.in-Some.ensures.link.0 in omega (arith, l, c.loop.invariant.sizes.bins.distances)

pub enter-requires-clause-vias : goal.enter-requires-clause-vias
enter-requires-clause-vias c = let l = allowed_bin c.args.instance.now c.is_problem.ensures c.loop.top c.in-Some.bin c.in-Some.ensures.link.0 in omega (arith, l, c.loop.invariant.sizes.bins.vias)

pub enter-requires-clause-mark : goal.enter-requires-clause-mark
enter-requires-clause-mark c = c.loop.invariant.sizes.marks c.in-Some.bin (allowed_bin c.args.instance.now c.is_problem.ensures c.loop.top c.in-Some.bin c.in-Some.ensures.link.0)

pub returns-in-None-enter-clause-way : goal.returns-in-None-enter-clause-way
returns-in-None-enter-clause-way c = λ t. (
    let m = c.args.matching.now in
    let i = c.loop.invariant in
    entered_way c.args.instance.now m.seating.seats m.item_prices.items m.bin_prices.items c.args.item c.loop.top c.in-Some.bin c.loop.walks.stack.items c.loop.walks.tables c.enter.new.tables c.is_problem.ensures c.in-Some.ensures.link i.sizes.bins i.way c.in-None-enter.ensures.entered c.enter.new.tables.end c.in-None-enter.ensures.none)

pub loop-preserved : goal.loop-preserved
loop-preserved c =
    let p = c.args.instance.now in
    let m = c.args.matching.now in
    let i = c.loop.invariant in
    let ats = m.seating.seats in
    let us = m.item_prices.items in
    let vs = m.bin_prices.items in
    let F = λ (x : Walks) (top : ℕ). (record {
      sizes : HasTables p x.arcs.items x.turns.items x.tables;
      way : IsOnWay p ats us vs c.args.item top x.stack.items x.tables;
    }) in
    elim c.match-next_bin.branch [
      | in-Some+in-Some-enter+in_ok-push-in-Some-enter w ↦
          (let e = w.in-Some-enter.ensures.entered in
          let l = c.loop.walks.tables in
          let new = w.enter.new.tables in
          let link = w.in-Some.ensures.link in
          subst (λ (x : ℕ). F c.match-next_bin.walks x) (sym w.top-is)
          (subst (λ (x : Walks). F x w.in-Some-enter.next) (sym w.walks-is) (record {
            sizes = record {
              items = w.in-Some.ensures.arcs ∙ i.sizes.items;
              turn_count = i.sizes.turn_count;
              bins = entered_bins p ats us vs c.args.item c.loop.top w.in-Some.bin c.loop.walks.stack.items l new c.is_problem.ensures link i.sizes.bins i.way e;
              marks = entered_marks p ats us vs c.args.item c.loop.top w.in-Some.bin c.loop.walks.stack.items l new c.is_problem.ensures link i.sizes.bins i.way e i.sizes.marks;
            };
            way = entered_on p ats us vs c.args.item c.loop.top w.in-Some.bin c.loop.walks.stack.items l new c.is_problem.ensures link i.sizes.bins i.way e w.in-Some-enter.next w.push.new.self.items w.in-Some-enter.ensures.some
                (λ k z. elim (Contains-push_cases c.loop.walks.stack.items c.loop.top k (subst (λ (x : List ℕ). Contains x k) w.in_ok-push-in-Some-enter.ensures.items z)) [ inl q ↦ inr q | inr q ↦ inl (sym q) ]);
          })))
      | in-None+in-Some-back w ↦
          (subst (λ (x : ℕ). F c.match-next_bin.walks x) (sym w.top-is)
          (subst (λ (x : Walks). F x w.in-Some-back.below) (sym w.walks-is) (record {
            sizes = record {
              items = w.in-None.ensures.arcs ∙ i.sizes.items;
              turn_count = w.in-Some-back.ensures.turns ∙ i.sizes.turn_count;
              bins = i.sizes.bins;
              marks = i.sizes.marks;
            };
            way = record { trail = i.way.trail; here = i.way.before _ w.in-Some-back.ensures.some; before = λ k z. i.way.before k (w.in-Some-back.ensures.rest k z) };
          })))
    ]
