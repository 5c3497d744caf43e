use Rattle.std.proofs.Common.{◌≡◌, ◌+◌, ℕ, Option, replicate, None, arith, refl, ap, ◌∙◌, subst, sym}
use Rattle.price_certificate.specs.Problem.{bins_of}
use Rattle.assign_engine.specs.Roll.{Seated}
use Rattle.assign_engine.specs.Usable.{home_of}
use Rattle.assign_engine.specs.Seats.{IsStart}
use Rattle.assign_engine.proofs.Starting.{start_none, start_skip, start_keep}
use Rattle.assign_engine.proofs.start.kept_seating.Goals as goal
use Rattle.assign_engine.proofs.start.kept_seating.Goals.{in-Some+in_ok-put, in_default}

pub loop-item-init : goal.loop-item-init
loop-item-init c = record {
  start = start_none c.args.instance.now c.in_ok-seating.seating.seats (c.in_ok-seating.ensures.seats ∙ ap (λ (m : ℕ). replicate {A = Option ℕ} m None) c.items.ensures.count);
  bins = c.in_ok-seating.ensures.bins ∙ c.bins.ensures.count;
}

pub loop-item-preserved : goal.loop-item-preserved
loop-item-preserved c =
    let p = c.args.instance.now in
    let n = c.loop-item.item in
    let now = c.loop-item.seating in
    let i = c.loop-item.invariant in
    let F = λ (s : Seated). (record { start : IsStart p (n + 1) s.seats; bins : s.bins ≡ bins_of p }) in
    elim c.match-home_with_room.branch [
      | in-Some+in_ok-put w ↦
          (let e = w.in-Some.ensures in
          subst F (sym (w.seating-is ∙ w.in_ok-put.ensures.ok)) (record {
            start = start_keep p n now.seats w.in-Some.bin i.start (omega (arith, c.loop-item-test.true, c.items-item-end.ensures.count)) e.exact e.home e.room;
            bins = i.bins;
          }))
      | in_default w ↦ subst F (sym w.seating-is) (record { start = start_skip p n now.seats (home_of p n) i.start refl w.in_default.ensures.none; bins = i.bins })
    ]
