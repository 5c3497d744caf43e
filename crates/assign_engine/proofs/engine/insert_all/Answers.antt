use Rattle.std.proofs.Common.{◌≡◌, ◌+◌, ◌<◌, ℕ, length, arith, sym, subst}
use Rattle.price_certificate.specs.Problem.{items_of, bins_of}
use Rattle.assign_engine.specs.Seats.{IsInserting}
use Rattle.assign_engine.specs.SearchTables.{SearchState, HasBins}
use Rattle.assign_engine.specs.declared.matching.Matching.{Matching}
use Rattle.assign_engine.proofs.Starting.{inserting_skip, inserting_more}
use Rattle.assign_engine.proofs.Exact.{inserting_better}
use Rattle.assign_engine.proofs.engine.insert_all.Goals as goal
use Rattle.assign_engine.proofs.engine.insert_all.Goals.{then-is_waiting+in_ok-insert, else-is_waiting}

pub loop-item-preserved : goal.loop-item-preserved
loop-item-preserved c =
    let p = c.args.instance.now in
    let l = c.loop-item in
    let i = l.invariant in
    let now = c.walk_if_due.new.matching in
    let walks = c.walk_if_due.new.walks in
    let walked = c.in_ok-due.ensures in
    let start = c.args.matching.now.seating.seats in
    let ls : length start ≡ items_of p = c.requires.sound.seats in
    let lt : l.item < items_of p = omega (arith, c.loop-item-test.true, c.items-item-end.ensures.count) in
    let h = inserting_better p start l.item l.matching.seating.seats now.seating.seats l.matching.item_prices.items l.matching.bin_prices.items now.item_prices.items now.bin_prices.items l.searches l.settled i.inserting walked.better in
    let F = λ (m : Matching) (t : SearchState) (a b : ℕ). (record {
      inserting : IsInserting p start (l.item + 1) m.seating.seats m.item_prices.items m.bin_prices.items a b;
      bins : m.seating.bins ≡ bins_of p;
      sizes : HasBins (bins_of p) t;
      arcs : length walks.arcs.items ≡ items_of p;
      turns : length walks.turns.items ≡ bins_of p;
      marks : HasBins (bins_of p) walks.tables;
    }) in
    elim c.if-is_waiting.branch [
      | then-is_waiting+in_ok-insert w ↦
          let m = w.insert.new.matching in
          let e = w.in_ok-insert.ensures in
          let settled : w.settled-more.result ≡ w.insert.new.tables.settled = w.settled-more.ensures in
          subst (λ (x : Matching). F x c.if-is_waiting.tables c.if-is_waiting.searches c.if-is_waiting.settled) (sym w.matching-is)
          (subst (λ (x : SearchState). F m x c.if-is_waiting.searches c.if-is_waiting.settled) (sym w.tables-is)
          (subst (λ (x : ℕ). F m w.insert.new.tables x c.if-is_waiting.settled) (sym w.searches-is)
          (subst (λ (x : ℕ). F m w.insert.new.tables (l.searches + 1) x) (sym w.settled-is) (record {
            inserting = inserting_more p start l.item now.seating.seats now.item_prices.items now.bin_prices.items l.searches l.settled h ls lt m.seating.seats m.item_prices.items m.bin_prices.items _
                (c.is_waiting.ensures.yes w.if-is_waiting.true) e.inserted (omega (arith, settled, e.settled));
            bins = e.bins;
            sizes = e.sizes;
            arcs = walked.items;
            turns = walked.turns;
            marks = walked.bins;
          }))))
      | else-is_waiting w ↦
          subst (λ (x : Matching). F x c.if-is_waiting.tables c.if-is_waiting.searches c.if-is_waiting.settled) (sym w.matching-is)
          (subst (λ (x : SearchState). F now x c.if-is_waiting.searches c.if-is_waiting.settled) (sym w.tables-is)
          (subst (λ (x : ℕ). F now l.tables x c.if-is_waiting.settled) (sym w.searches-is)
          (subst (λ (x : ℕ). F now l.tables l.searches x) (sym w.settled-is) (record {
            inserting = inserting_skip p start l.item now.seating.seats now.item_prices.items now.bin_prices.items l.searches l.settled h ls lt
                (λ k. (let yes = c.is_waiting.ensures.no k in let no = w.if-is_waiting.false in cc));
            bins = walked.seats;
            sizes = i.sizes;
            arcs = walked.items;
            turns = walked.turns;
            marks = walked.bins;
          }))))
    ]
