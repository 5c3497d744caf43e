use Rattle.std.proofs.Common.{◌≡◌, ℕ, List, arith, ap, ◌∙◌, subst, sym, refl}
use Rattle.price_certificate.specs.Problem.{bins_of}
use Rattle.price_certificate.proofs.Duality.{allowed_item}
use Rattle.assign_engine.specs.Roll.{Seated}
use Rattle.assign_engine.specs.Seats.{IsSound}
use Rattle.assign_engine.specs.Searched.{IsNear, HasTrail, IsWalking, IsInserted}
use Rattle.assign_engine.specs.Searching.{HasWay, target_of}
use Rattle.assign_engine.specs.declared.matching.Matching.{Matching}
use Rattle.assign_engine.proofs.Inserting.{init_room, init_item, step, done}
use Rattle.assign_engine.proofs.insert.follow.Goals as goal
use Rattle.assign_engine.proofs.insert.follow.Goals.{in-Room, in-Uncover}

pub put-requires-clause-item : goal.put-requires-clause-item
put-requires-clause-item c =
    let i = c.trail.invariant in
    omega (arith, allowed_item c.args.instance.now _ c.trail.hole (i.trail.allowed c.trail.hole i.near), c.via-via.ensures, i.walking.seats)

pub trail-init : goal.trail-init
trail-init c =
    let p = c.args.instance.now in
    let old = c.args.matching.now.seating.seats in
    let s = c.args.item in
    let l = c.args.tables.now in
    let m = c.args.matching.now in
    let us = m.item_prices.items in
    let vs = m.bin_prices.items in
    let e = c.requires in
    let F = λ (x : Matching). (record {
      near : IsNear p l.distances l.cost c.match-end.hole;
      walking : IsWalking p old x.item_prices.items x.item_prices.items x.bin_prices.items s l.ranks (target_of l.end old) c.match-end.hole x.seating.seats;
      bins : x.seating.bins ≡ bins_of p;
      item_prices : x.item_prices.items ≡ m.item_prices.items;
      bin_prices : x.bin_prices.items ≡ m.bin_prices.items;
      sound : IsSound p old x.item_prices.items x.bin_prices.items;
      trail : HasTrail p old x.item_prices.items x.bin_prices.items s l.distances l.vias l.ranks l.cost;
      way : HasWay p old x.item_prices.items x.bin_prices.items s l.distances l.vias l.ranks l.cost l.end;
    }) in
    elim c.match-end.branch [
      | in-Room w ↦
          (let r = init_room p old us vs s l.distances l.vias l.ranks l.cost c.is_problem.ensures e.sound e.new l.end _ _ m.seating.seats (sym c.end.ensures ∙ w.in-Room.is) w.hole-is refl e.way in
          subst F (sym w.matching-is) (record { near = r.1; walking = r.2; bins = e.bins; item_prices = refl; bin_prices = refl; sound = e.sound; trail = r.0; way = e.way }))
      | in-Uncover w ↦
          (let q = w.take_out.ensures in
          let r = init_item p old us vs s l.distances l.vias l.ranks l.cost c.is_problem.ensures e.sound e.new l.end _ _ _ w.take_out.new.self.seats (sym c.end.ensures ∙ w.in-Uncover.is) w.hole-is (ap (λ (x : Seated). x.seats) q) e.way in
          subst F (sym w.matching-is) (record { near = r.1; walking = r.2; bins = ap (λ (x : Seated). x.bins) q ∙ e.bins; item_prices = refl; bin_prices = refl; sound = e.sound; trail = r.0; way = e.way }))
    ]

pub trail-preserved : goal.trail-preserved
trail-preserved c =
    let p = c.args.instance.now in
    let old = c.args.matching.now.seating.seats in
    let s = c.args.item in
    let l = c.args.tables.now in
    let m = c.trail.matching in
    let us = m.item_prices.items in
    let i = c.trail.invariant in
    let ok = c.in_ok-put.ensures.ok in
    let r = step p old us m.bin_prices.items s l.distances l.vias l.ranks l.cost c.is_problem.ensures i.sound c.requires.new (target_of l.end old) c.trail.hole c.via-via.result c.in-Some.bin m.seating.seats i.trail i.near i.walking c.via-via.ensures (sym c.bin_of-from.ensures ∙ c.in-Some.is) in
    record {
      near = r.0.0;
      walking = subst (λ (x : Seated). IsWalking p old us us m.bin_prices.items s l.ranks (target_of l.end old) c.in-Some.bin x.seats) (sym ok) r.0.1;
      bins = ap (λ (x : Seated). x.bins) ok ∙ i.bins;
      item_prices = i.item_prices;
      bin_prices = i.bin_prices;
      sound = i.sound;
      trail = i.trail;
      way = i.way;
    }

pub trail-smaller : goal.trail-smaller
trail-smaller c =
    let p = c.args.instance.now in
    let old = c.args.matching.now.seating.seats in
    let l = c.args.tables.now in
    let m = c.trail.matching in
    let i = c.trail.invariant in
    let r = step p old m.item_prices.items m.bin_prices.items c.args.item l.distances l.vias l.ranks l.cost c.is_problem.ensures i.sound c.requires.new (target_of l.end old) c.trail.hole c.via-via.result c.in-Some.bin m.seating.seats i.trail i.near i.walking c.via-via.ensures (sym c.bin_of-from.ensures ∙ c.in-Some.is) in
    r.1

pub returns-in-None-clause-inserted : goal.returns-in-None-clause-inserted
returns-in-None-clause-inserted c =
    let p = c.args.instance.now in
    let old = c.args.matching.now.seating.seats in
    let s = c.args.item in
    let l = c.args.tables.now in
    let m = c.trail.matching in
    let us = m.item_prices.items in
    let i = c.trail.invariant in
    subst (λ (x : List ℕ). IsInserted p old x s c.put.new.self.seats us m.bin_prices.items) i.item_prices
    (subst (λ (x : Seated). IsInserted p old us s x.seats us m.bin_prices.items) (sym c.in_ok-put.ensures.ok)
    (done p old us m.bin_prices.items s l.distances l.vias l.ranks l.cost c.is_problem.ensures i.sound c.requires.new l.end c.trail.hole c.via-via.result m.seating.seats i.way i.trail i.near i.walking c.via-via.ensures (sym c.bin_of-from.ensures ∙ c.in-None.is)))
