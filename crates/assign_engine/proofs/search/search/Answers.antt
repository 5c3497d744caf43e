use Rattle.std.proofs.Common.{◌≡◌, ℕ, get_or, replicate, length, arith, sym, ap, ◌∙◌, subst}
use Rattle.std.proofs.lemmas.List.{get_or_read}
use Rattle.assign_engine.specs.SearchTables.{SearchState}
use Rattle.assign_engine.specs.Searched.{IsSearched, IsListed}
use Rattle.assign_engine.proofs.Searching.{found, found_listed, turn, search_starts}
use Rattle.assign_engine.proofs.search.search.Goals as goal

pub loop-bin-init : goal.loop-bin-init
loop-bin-init c =
    let p = c.args.instance.now in
    let us = c.args.matching.now.item_prices.items in
    let top = c.from-price.result in
    let sizes = c.requires.sizes in
    let is_top : top ≡ get_or us c.args.item 0 = c.from-price.ensures ∙ get_or_read us c.args.item c.index.result.now (omega (arith, c.requires.sound.items, c.requires.item)) c.index.ensures 0 in
    search_starts p c.args.matching.now.seating.seats us c.args.matching.now.bin_prices.items c.args.item top c.begin.new.self c.relax.new.tables is_top
    (c.begin.ensures.distances ∙ ap (λ (m : ℕ). replicate m top) sizes.distances)
    (ap length c.begin.ensures.vias ∙ sizes.vias)
    (c.begin.ensures.ranks ∙ ap (λ (m : ℕ). replicate m m) sizes.ranks)
    c.begin.ensures.cost
    c.begin.ensures.end
    c.begin.ensures.settled
    c.begin.ensures.settled_bins
    c.in_ok-relax.ensures

pub loop-bin-preserved : goal.loop-bin-preserved
loop-bin-preserved c =
    turn c.args.instance.now c.args.matching.now.seating.seats c.args.matching.now.item_prices.items c.args.matching.now.bin_prices.items c.args.item c.loop-bin.tables c.nearest.new.self c.look.new.self c.uncover.new.tables c.expand.new.tables c.in-Some.bin
    c.is_problem.ensures c.requires.sound c.loop-bin.invariant c.in-Some.ensures.some c.in-Some.ensures.pending c.nearest.ensures.same (c.look.ensures ∙ c.in_ok-settle.ensures) c.uncover.ensures c.in_ok-expand.ensures

pub returns-clause-searched : goal.returns-clause-searched
returns-clause-searched c =
    let p = c.args.instance.now in
    let ats = c.args.matching.now.seating.seats in
    let us = c.args.matching.now.item_prices.items in
    let vs = c.args.matching.now.bin_prices.items in
    subst (λ (m : SearchState). IsSearched p ats us vs c.args.item m.distances m.cost) (sym c.nearest.ensures.same)
    (found p ats us vs c.args.item c.loop-bin.tables c.is_problem.ensures c.requires.sound c.loop-bin.invariant c.in_default.ensures.none)

pub returns-clause-listed : goal.returns-clause-listed
returns-clause-listed c =
    let p = c.args.instance.now in
    let ats = c.args.matching.now.seating.seats in
    let us = c.args.matching.now.item_prices.items in
    let vs = c.args.matching.now.bin_prices.items in
    subst (λ (m : SearchState). IsListed p m.distances m.cost m.settled_bins) (sym c.nearest.ensures.same)
    (found_listed p ats us vs c.args.item c.loop-bin.tables c.is_problem.ensures c.requires.sound c.loop-bin.invariant c.in_default.ensures.none)
