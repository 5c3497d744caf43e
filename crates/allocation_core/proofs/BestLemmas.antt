-- Every published allocation is the best of its moment, or the best within caps that cost nothing.
use Rattle.std.proofs.Common.{◌≡◌, ℕ, zero, suc, ◌+◌, ◌<◌, ◌≤◌, ◌||◌, Bool, true, false, List, [], ◌∷◌, ◌++◌, All, length, get_or, refl, sym, ap, subst, ◌∙◌, inl, inr, arith, append_assoc, length-append}
use Rattle.std.specs.Prelude.{AllPairs}
use Rattle.std.specs.List.{list_any}
use Rattle.std.proofs.lemmas.List.{append-nil}
use Rattle.std.proofs.lemmas.List.Elements.{All-nil, All-push}
use Rattle.std.proofs.lemmas.Bool.{cases_lt}
use Rattle.price_certificate.specs.Assignment.{IsOptimal}
use Rattle.spread_certificate.specs.Within.{IsBestWithin as IsBestPlanWithin}
use Rattle.spread_certificate.specs.declared.spread.Spread.{Spread as SpreadPlan}
use Rattle.spread_certificate.proofs.JudgeLemmas.{even_spread, spread_fine}
use Rattle.handover.specs.Handover.{last_of}
use Rattle.fleet.specs.declared.job.JobSpec.{JobSpec}
use Rattle.fleet_assignment.specs.Best.{IsBest, IsOnce, left_by, moved_by}
use Rattle.fleet_assignment.specs.Laws.{PlanLaws}
use Rattle.fleet_assignment.specs.Within.{BestCoverMost, IsBestWithin}
use Rattle.fleet_events.specs.declared.answer.Answer.TheVariants.{Published}
use Rattle.fleet_events.specs.declared.event.Event.{Event}
use Rattle.fleet_events.specs.declared.event.Event.TheVariants.{Install, Spread}
use Rattle.allocation_core.specs.State.{State, allocation_at, current_pairs, first_state, instance_at}
use Rattle.allocation_core.specs.Steps.{answer_of, state_after}
use Rattle.allocation_core.specs.Runs.{state_of}
use Rattle.allocation_core.specs.Kept.{IsKept}
use Rattle.allocation_core.specs.Best.{AllBest, AlwaysBest, AlwaysMost, InstalledAreBest, PublishedCoverMost, WasBest, WasBestWithin, WasPublished, is_spread}
use Rattle.allocation_core.proofs.StepLemmas.{step_kept, start_kept, publishes, IsFineInstall, IsFineSpread, Publishes}
use Rattle.allocation_core.proofs.RunLemmas.{state_of_append}

-- what is published stays
pub record Grows (old new : List (List (ℕ × ℕ))) : Type 0 where
  pub more : List (List (ℕ × ℕ))
  pub is : new ≡ old ++ more

pub step_grows : (m : State) (e : Event) → Grows m.published (state_after m e).published
step_grows m e = elim (publishes m e) [
  | inl same ↦ record { more = []; is = same ∙ sym (append-nil m.published) }
  | inr p ↦ record { more = allocation_at m p.pairs ∷ []; is = p.grown }
]

run_grows : (m : State) (es : List Event) → Grows m.published (state_of m es).published
run_grows m [] = record { more = []; is = sym (append-nil m.published) }
run_grows m (e ∷ es) =
    let first = step_grows m e in
    let rest = run_grows (state_after m e) es in
    record { more = first.more ++ rest.more; is = rest.is ∙ ap (λ (ps : List (List (ℕ × ℕ))). ps ++ rest.more) first.is ∙ append_assoc m.published first.more rest.more }

get_or-front : (xs ys : List (List (ℕ × ℕ))) (k : ℕ) → k < length xs → get_or (xs ++ ys) k [] ≡ get_or xs k []
get_or-front [] ys k l = absurd (omega arith)
get_or-front (x ∷ xs) ys zero l = refl
get_or-front (x ∷ xs) ys (suc k) l = get_or-front xs ys k (omega arith)

get_or-last : (xs : List (List (ℕ × ℕ))) (x : List (ℕ × ℕ)) (k : ℕ) → k ≡ length xs → get_or (xs ++ x ∷ []) k [] ≡ x
get_or-last [] x zero e = refl
get_or-last [] x (suc k) e = absurd (omega arith)
get_or-last (y ∷ xs) x zero e = absurd (omega arith)
get_or-last (y ∷ xs) x (suc k) e = get_or-last xs x k (omega arith)

-- no target stands twice in what is published
pub step_once : PlanLaws → (m : State) (e : Event) → All IsOnce m.published → All IsOnce (state_after m e).published
step_once laws m e once = elim (publishes m e) [
  | inl same ↦ subst (λ (ps : List (List (ℕ × ℕ))). All IsOnce ps) (sym same) once
  | inr p ↦ subst (λ (ps : List (List (ℕ × ℕ))). All IsOnce ps) (sym p.grown) (All-push IsOnce m.published (allocation_at m p.pairs) once (laws.once m.fleet p.pairs))
]

pub last_once : (published : List (List (ℕ × ℕ))) → All IsOnce published → IsOnce (last_of published)
last_once [] once = λ target. omega arith
last_once (pairs ∷ published) once = once (length published) [] (omega arith)

-- what the event itself published
pub record IsHere (m : State) (e : Event) (k : ℕ) (plan pairs : List (ℕ × ℕ)) : Type 0 where
  pub is : pairs ≡ allocation_at m plan
  pub before : length m.published ≡ k
  pub answered : answer_of m e ≡ Published (k + 1)
  pub granted : (state_after m e).published ≡ m.published ++ pairs ∷ []

is_here :
    (m : State) (e : Event) (es : List Event) (k : ℕ) → length m.published ≤ k → k < length (state_after m e).published → (p : Publishes m e) → IsHere m e k p.pairs (get_or (state_of (state_after m e) es).published k [])
is_here m e es k low high p =
    let rest = run_grows (state_after m e) es in
    let size : length (state_after m e).published ≡ length m.published + 1 = omega (arith, ap (λ (ps : List (List (ℕ × ℕ))). length ps) p.grown, length-append m.published (allocation_at m p.pairs ∷ [])) in
    let is : get_or (state_of (state_after m e) es).published k [] ≡ allocation_at m p.pairs =
    ap (λ (ps : List (List (ℕ × ℕ))). get_or ps k []) rest.is
    ∙ get_or-front (state_after m e).published rest.more k high
    ∙ ap (λ (ps : List (List (ℕ × ℕ))). get_or ps k []) p.grown
    ∙ get_or-last m.published (allocation_at m p.pairs) k (omega (arith, size)) in
    record {
      is = is;
      before = omega (arith, size);
      answered = p.answered ∙ ap (λ (n : ℕ). Published (n + 1)) (let r : length m.published ≡ k = omega (arith, size) in r);
      granted = p.grown ∙ ap (λ (ps : List (ℕ × ℕ)). m.published ++ ps ∷ []) (sym is);
    }

-- an Install published it
install_best :
    PlanLaws → (m : State) (e : Event) (es : List Event) (k : ℕ) (plan pairs : List (ℕ × ℕ)) → IsKept m → All IsOnce m.published → IsHere m e k plan pairs → IsFineInstall m e plan → WasBest m (e ∷ es) k pairs
install_best laws m e es k plan pairs kept once here p =
    let problem = laws.problems m.fleet (current_pairs m) kept.fleet in
    let optimal_plan : IsOptimal (instance_at m) p.plan.pairs =
    laws.optimal (instance_at m) p.plan.pairs p.plan.item_prices p.plan.bin_prices problem ((laws.faultless (instance_at m) p.plan.pairs p.plan.item_prices p.plan.bin_prices problem).0 p.fine) in
    let alone = last_once m.published once in
    let over = laws.carried m.fleet (current_pairs m) p.plan.pairs kept.fleet alone optimal_plan.feasible in
    let is : pairs ≡ allocation_at m p.plan.pairs = here.is ∙ ap (allocation_at m) (sym p.its) in
    record {
      earlier = [];
      plan = p.plan;
      later = es;
      split = ap (λ (f : Event). f ∷ es) p.is;
      before = here.before;
      answered = ap (λ (f : Event). answer_of m f) (sym p.is) ∙ here.answered;
      granted = ap (λ (f : Event). (state_after m f).published) (sym p.is) ∙ here.granted;
      best = subst (λ (ps : List (ℕ × ℕ)). IsBest m.fleet (current_pairs m) ps) (sym is) ((laws.best m.fleet (current_pairs m) p.plan.pairs kept.fleet alone optimal_plan.feasible).0 optimal_plan);
      ascending = subst (λ (ps : List (ℕ × ℕ)). AllPairs (λ (a b : ℕ × ℕ). a.0 < b.0) ps) (sym is) over.ascending;
      published = is;
      optimal = optimal_plan;
      leaves = over.leaves ∙ ap (λ (ps : List (ℕ × ℕ)). left_by m.fleet ps) (sym is);
      moves = over.moves ∙ ap (λ (ps : List (ℕ × ℕ)). moved_by m.fleet (current_pairs m) ps) (sym is);
    }

-- a Spread published it
spread_best :
    PlanLaws → (m : State) (e : Event) (es : List Event) (k : ℕ) (plan pairs : List (ℕ × ℕ)) → IsKept m → All IsOnce m.published → IsHere m e k plan pairs → IsFineSpread m e plan → WasBestWithin m (e ∷ es) k pairs
spread_best laws m e es k plan pairs kept once here p =
    let problem = laws.problems m.fleet (current_pairs m) kept.fleet in
    let caps : List ℕ = p.spread.caps in
    let best_plan : IsBestPlanWithin caps (instance_at m) p.spread.plan.pairs = spread_fine (instance_at m) p.spread problem p.fine in
    let alone = last_once m.published once in
    let over = laws.carried m.fleet (current_pairs m) p.spread.plan.pairs kept.fleet alone best_plan.feasible in
    let is : pairs ≡ allocation_at m p.spread.plan.pairs = here.is ∙ ap (allocation_at m) (sym p.its) in
    record {
      earlier = [];
      spread = p.spread;
      later = es;
      split = ap (λ (f : Event). f ∷ es) p.is;
      before = here.before;
      answered = ap (λ (f : Event). answer_of m f) (sym p.is) ∙ here.answered;
      granted = ap (λ (f : Event). (state_after m f).published) (sym p.is) ∙ here.granted;
      best = subst (λ (ps : List (ℕ × ℕ)). IsBestWithin m.fleet caps (current_pairs m) ps) (sym is) (laws.within m.fleet caps (current_pairs m) p.spread.plan.pairs kept.fleet alone best_plan);
      ascending = subst (λ (ps : List (ℕ × ℕ)). AllPairs (λ (a b : ℕ × ℕ). a.0 < b.0) ps) (sym is) over.ascending;
      published = is;
      plan_best = best_plan;
      even = even_spread (instance_at m) p.spread problem p.fine;
      leaves = over.leaves ∙ ap (λ (ps : List (ℕ × ℕ)). left_by m.fleet ps) (sym is);
      moves = over.moves ∙ ap (λ (ps : List (ℕ × ℕ)). moved_by m.fleet (current_pairs m) ps) (sym is);
    }

here_best :
    PlanLaws → (m : State) (e : Event) (es : List Event) (k : ℕ) → IsKept m → All IsOnce m.published → length m.published ≤ k → k < length (state_after m e).published → Publishes m e → WasPublished m (e ∷ es) k (get_or (state_of (state_after m e) es).published k [])
here_best laws m e es k kept once low high p =
    let pairs : List (ℕ × ℕ) = get_or (state_of (state_after m e) es).published k [] in
    let here : IsHere m e k p.pairs pairs = is_here m e es k low high p in
    elim p.fine [
      | inl fine ↦ inl (install_best laws m e es k p.pairs pairs kept once here fine)
      | inr fine ↦ inr (spread_best laws m e es k p.pairs pairs kept once here fine)
    ]

-- with an event before
after_one : (m : State) (e : Event) (es : List Event) (k : ℕ) (pairs : List (ℕ × ℕ)) → WasPublished (state_after m e) es k pairs → WasPublished m (e ∷ es) k pairs
after_one m e es k pairs (inl was) =
    inl (record {
      earlier = e ∷ was.earlier;
      plan = was.plan;
      later = was.later;
      split = ap (λ (fs : List Event). e ∷ fs) was.split;
      before = was.before;
      answered = was.answered;
      granted = was.granted;
      best = was.best;
      ascending = was.ascending;
      published = was.published;
      optimal = was.optimal;
      leaves = was.leaves;
      moves = was.moves;
    })
after_one m e es k pairs (inr was) =
    inr (record {
      earlier = e ∷ was.earlier;
      spread = was.spread;
      later = was.later;
      split = ap (λ (fs : List Event). e ∷ fs) was.split;
      before = was.before;
      answered = was.answered;
      granted = was.granted;
      best = was.best;
      ascending = was.ascending;
      published = was.published;
      plan_best = was.plan_best;
      even = was.even;
      leaves = was.leaves;
      moves = was.moves;
    })

pub run_best : PlanLaws → (m : State) (es : List Event) (k : ℕ) → IsKept m → All IsOnce m.published → length m.published ≤ k → k < length (state_of m es).published → WasPublished m es k (get_or (state_of m es).published k [])
run_best laws m [] k kept once low high = absurd (omega arith)
run_best laws m (e ∷ es) k kept once low high = elim (cases_lt k (length (state_after m e).published)) [
  | inl l ↦ elim (publishes m e) [
    | inl same ↦ absurd (omega (arith, ap (λ (ps : List (List (ℕ × ℕ))). length ps) same))
    | inr p ↦ here_best laws m e es k kept once low l p
  ]
  | inr g ↦ after_one m e es k (get_or (state_of (state_after m e) es).published k []) (run_best laws (state_after m e) es k (step_kept m e kept) (step_once laws m e once) g high)
]

pub always_best : PlanLaws → AlwaysBest
always_best laws jobs report_rounds events place less = run_best laws (first_state jobs report_rounds) events place (start_kept jobs report_rounds) (All-nil IsOnce) (omega arith) less

-- with more events behind
farther : (first : State) (events done left : List Event) (place : ℕ) (pairs : List (ℕ × ℕ)) → events ≡ done ++ left → WasPublished first done place pairs → WasPublished first events place pairs
farther first events done left place pairs e (inl was) =
    inl (record {
      earlier = was.earlier;
      plan = was.plan;
      later = was.later ++ left;
      split = e ∙ ap (λ (es : List Event). es ++ left) was.split ∙ append_assoc was.earlier (Install was.plan ∷ was.later) left;
      before = was.before;
      answered = was.answered;
      granted = was.granted;
      best = was.best;
      ascending = was.ascending;
      published = was.published;
      optimal = was.optimal;
      leaves = was.leaves;
      moves = was.moves;
    })
farther first events done left place pairs e (inr was) =
    inr (record {
      earlier = was.earlier;
      spread = was.spread;
      later = was.later ++ left;
      split = e ∙ ap (λ (es : List Event). es ++ left) was.split ∙ append_assoc was.earlier (Spread was.spread ∷ was.later) left;
      before = was.before;
      answered = was.answered;
      granted = was.granted;
      best = was.best;
      ascending = was.ascending;
      published = was.published;
      plan_best = was.plan_best;
      even = was.even;
      leaves = was.leaves;
      moves = was.moves;
    })

-- ---- what follows

any_there : (earlier later : List Event) (spread : SpreadPlan) → list_any is_spread (earlier ++ Spread spread ∷ later) ≡ true
any_there [] later spread = refl
any_there (e ∷ earlier) later spread = later_true (is_spread e) _ (any_there earlier later spread)
  where
    later_true : (b c : Bool) → c ≡ true → (b || c) ≡ true
    later_true true c h = refl
    later_true false c h = h

without_spread : (first : State) (events : List Event) (place : ℕ) (pairs : List (ℕ × ℕ)) → list_any is_spread events ≡ false → WasPublished first events place pairs → WasBest first events place pairs
without_spread first events place pairs none (inl was) = was
without_spread first events place pairs none (inr was) = absurd (not_both (list_any is_spread events) none (ap (list_any is_spread) was.split ∙ any_there was.earlier was.later was.spread))
  where
    not_both : (b : Bool) → b ≡ false → b ≡ true → ⊥
    not_both b e f = cc

pub installed_are_best : AlwaysBest → InstalledAreBest
installed_are_best always jobs report_rounds events none place less = without_spread (first_state jobs report_rounds) events place _ none (always jobs report_rounds events place less)

pub published_cover_most : BestCoverMost → PublishedCoverMost
published_cover_most law first events place pairs (inl was) =
    record {
      earlier = was.earlier;
      event = Install was.plan;
      later = was.later;
      split = was.split;
      before = was.before;
      answered = was.answered;
      granted = was.granted;
      most = law.of_all _ _ _ was.best;
    }
published_cover_most law first events place pairs (inr was) =
    record {
      earlier = was.earlier;
      event = Spread was.spread;
      later = was.later;
      split = was.split;
      before = was.before;
      answered = was.answered;
      granted = was.granted;
      most = law.within _ _ _ _ was.best;
    }

pub always_most : AlwaysBest → BestCoverMost → AlwaysMost
always_most always law jobs report_rounds events place less = published_cover_most law (first_state jobs report_rounds) events place _ (always jobs report_rounds events place less)

-- a run that did the first of the events
pub best_after : AlwaysBest → (jobs : List JobSpec) (report_rounds : ℕ) (events done left : List Event) (old new : State) → old ≡ first_state jobs report_rounds → events ≡ done ++ left → new ≡ state_of old done → AllBest (first_state jobs report_rounds) events new
best_after always jobs report_rounds events done left old new opened split is =
    let same : new ≡ state_of (first_state jobs report_rounds) done = is ∙ ap (λ (m : State). state_of m done) opened in
    subst (λ (m : State). AllBest (first_state jobs report_rounds) events m) (sym same)
    (λ place less. farther (first_state jobs report_rounds) events done left place (get_or (state_of (first_state jobs report_rounds) done).published place []) split (always jobs report_rounds done place less))

-- the same, after earlier events
pub best_after_earlier : AlwaysBest → (jobs : List JobSpec) (report_rounds : ℕ) (earlier events done left : List Event) (old new : State) → old ≡ state_of (first_state jobs report_rounds) earlier → events ≡ done ++ left → new ≡ state_of old done → AllBest (first_state jobs report_rounds) (earlier ++ events) new
best_after_earlier always jobs report_rounds earlier events done left old new reached split is =
    best_after always jobs report_rounds (earlier ++ events) (earlier ++ done) left (first_state jobs report_rounds) new refl
    (ap (λ (es : List Event). earlier ++ es) split ∙ sym (append_assoc earlier done left))
    (is ∙ ap (λ (m : State). state_of m done) reached ∙ sym (state_of_append (first_state jobs report_rounds) earlier done))
