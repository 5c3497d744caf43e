use Rattle.std.proofs.Common.{IsTrue, List, ℕ, ap, subst, sym, ◌∙◌}
use Rattle.fleet_assignment.specs.Sharing.{IsAsked}
use Rattle.fleet_assignment.proofs.SharingLemmas.{asked_below, asked_itself, asked_more}
use Rattle.fleet_assignment.proofs.rows.asked.Goals as goal
use Rattle.fleet_assignment.proofs.rows.asked.Goals.{then-not-is_asked+in_ok-push, else-not-is_asked}

pub loop-place-preserved : goal.loop-place-preserved
loop-place-preserved c =
    let collectors = c.args.collectors.now in
    let n = c.loop-place.place in
    let before = c.loop-place.asked.items in
    elim c.if-not-is_asked.branch [
      | then-not-is_asked+in_ok-push w ↦
          let is = ap (λ (v : _). v.items) w.asked-is ∙ w.in_ok-push.ensures.items in
          λ place l. subst (λ (asked : List ℕ). IsAsked collectors asked place) (sym is)
          (asked_below collectors _ n (λ p m. asked_more collectors before n p (c.loop-place.invariant p m)) (asked_itself collectors before n c.loop-place-test.true) place l)
      | else-not-is_asked w ↦
          let is = ap (λ (v : _). v.items) w.asked-is in
          let t : IsTrue c.is_asked.result = cc in
          λ place l. subst (λ (asked : List ℕ). IsAsked collectors asked place) (sym is)
          (asked_below collectors before n c.loop-place.invariant (subst (λ (asked : List ℕ). IsAsked collectors asked n) c.as_slice.ensures.value (c.is_asked.ensures t)) place l)
    ]
