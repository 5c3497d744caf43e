-- Epochs rise, and what names one that is over is over.
use Rattle.std.proofs.Common.{◌≡◌, ◌==◌, ◌&&◌, ℕ, ◌+◌, ◌<◌, ◌≤◌, Bool, true, false, List, [], ◌∷◌, cond, refl, sym, ap, ◌∙◌, arith}
use Rattle.std.proofs.lemmas.Bool.{eqb-true, ne_eqb}
use Rattle.etcd_laws.specs.Stores.{Request, Claim, Write, Remove, Switch, Forget, Step, Asks, Ends, Store, after, created_at, done, leads, next, passes, run}
use Rattle.etcd_laws.specs.Laws.{EpochsRise, OverIsOver}
use Rattle.etcd_laws.proofs.Leading.{unchanged}

rises_if : (b : Bool) (s t : Store) → (b ≡ true → s.epoch ≤ t.epoch) → s.epoch ≤ (cond b t s).epoch
rises_if true s t h = h refl
rises_if false s t h = omega arith

second : (a b : Bool) → (a && b) ≡ true → b ≡ true
second true b e = e
second false b e = absurd (cc e)

step_rises : (s : Store) (step : Step) → s.epoch ≤ (next s step).epoch
step_rises s (Ends lease) = omega arith
step_rises s (Asks (Claim t lease)) = rises_if (passes s (Claim t lease)) s (done s (Claim t lease)) (λ p. omega arith)
step_rises s (Asks (Write t going epoch number bytes)) = rises_if (passes s (Write t going epoch number bytes)) s (done s (Write t going epoch number bytes)) (λ p. omega arith)
step_rises s (Asks (Remove t going epoch number created)) = rises_if (passes s (Remove t going epoch number created)) s (done s (Remove t going epoch number created)) (λ p. omega arith)
step_rises s (Asks (Switch t going)) =
    rises_if (passes s (Switch t going)) s (done s (Switch t going)) (λ p. (let e : s.epoch ≡ going = eqb-true s.epoch going (second (leads s.leader t) (s.epoch == going) p) in omega (arith, e)))
step_rises s (Asks (Forget t epoch)) = rises_if (passes s (Forget t epoch)) s (done s (Forget t epoch)) (λ p. omega arith)

pub epochs_rise : EpochsRise
epochs_rise s [] = omega arith
epochs_rise s (step ∷ steps) =
    let here = step_rises s step in
    let later = epochs_rise (next s step) steps in
    omega (arith, here, later)

and_false : (a b : Bool) → b ≡ false → (a && b) ≡ false
and_false true b e = e
and_false false b e = refl

pub over_is_over : OverIsOver
over_is_over s term going epoch number created bytes steps before =
    let t = run s steps in
    let rose = epochs_rise s steps in
    let over : (t.epoch == going) ≡ false = ne_eqb t.epoch going (λ e. absurd (omega (arith, rose, e, before))) in (
      unchanged t (Write term going epoch number bytes) (and_false (leads t.leader term) ((t.epoch == going) && (created_at t epoch number == 0)) (ap (λ (b : Bool). b && (created_at t epoch number == 0)) over)),
      unchanged t (Remove term going epoch number created) (and_false (leads t.leader term) ((t.epoch == going) && (created_at t epoch number == created)) (ap (λ (b : Bool). b && (created_at t epoch number == created)) over)),
      unchanged t (Switch term going) (and_false (leads t.leader term) (t.epoch == going) over),
    )
