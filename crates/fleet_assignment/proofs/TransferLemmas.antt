-- Plans and allocations of a moment come to the same: what is optimal among plans is the best among allocations.
use Rattle.std.proofs.Common.{◌≡◌, ◌≢◌, ℕ, ◌+◌, ◌*◌, ◌-◌, ◌/◌, ◌<◌, ◌≤◌, ◌&&◌, ◌⊎◌, List, Bool, false, Option, Some, None, All, length, get_or, cond, eqb, count_by, sum_by, refl, sym, ap, ◌∙◌, inl, inr, arith}
use Rattle.std.specs.Prelude.{map, option_and_then, slice_get, slice_index}
use Rattle.std.specs.Option.{option_map}
use Rattle.std.proofs.lemmas.Nat.{div-mul-add}
use Rattle.std.proofs.lemmas.List.{length-map, get_or-map}
use Rattle.std.proofs.lemmas.List.Elements.{All-map}
use Rattle.std.proofs.lemmas.List.Sums.{count_by-le-length}
use Rattle.std.proofs.lemmas.Bool.{cases_eq, eq-eqb, ne_eqb, eqb-true, eqb-false, and_from}
use Rattle.price_certificate.specs.Problem.{IsAllowed, before_of, before_count, capacity_by, drains, is_bin, items_of, was_in}
use Rattle.price_certificate.specs.Assignment.{IsFeasible, IsOptimal, kept, left, moved, uses_of_bin, uses_of_item}
use Rattle.price_certificate.proofs.Duality.{allowed_item}
use Rattle.price_certificate.proofs.Sums.{sum_by-same}
use Rattle.fleet.specs.Fleet.{is_draining, live_of}
use Rattle.fleet.specs.ShareLimit.{lower_limit}
use Rattle.fleet_assignment.proofs.Moment.{Moment}
use Rattle.fleet_assignment.specs.Beside.{beside}
use Rattle.fleet_assignment.specs.Instance.{instance_of, bin_in, bin_before, place_of}
use Rattle.fleet_assignment.specs.Allocation.{allocation_of}
use Rattle.fleet.specs.IsFleet.{IsFleet}
use Rattle.fleet_assignment.specs.Best.{IsBest, IsCarriedOver, IsOnce, IsSound, is_of_job, left_by, limit_at, moved_by, own_limit_at, share_of, stands_in}
use Rattle.fleet.specs.declared.known_target.KnownTarget.{KnownTarget}
use Rattle.fleet.specs.declared.collector.Collector.{Collector}
use Rattle.fleet_assignment.proofs.SoundLemmas.{allocation_ascending, allocation_live, allocation_once, allocation_reaching, same_some}
use Rattle.fleet_assignment.proofs.WithinLemmas.{HasId, allocation_within, allocation_within_own, draining_at, draining_one, find_id, limit_of_bin, one_place}
use Rattle.fleet_assignment.proofs.LimitLemmas.{lower_least}
use Rattle.fleet_assignment.proofs.CountLemmas.{count_weaker, ones, pairs_most, passes_or, stands_beside, sum_by-map}
use Rattle.fleet_assignment.proofs.FitLemmas.{Fits, allowed_fits, bin_is, bin_of, fits_allowed, item_of, place_by, position_none, reached_fits, same_bin}
use Rattle.fleet_assignment.proofs.MovedLemmas.{before_can, loses_the_rest}
use Rattle.fleet_assignment.proofs.PairLemmas.{meant, sum_meant}

before_is : (m : Moment) (item : ℕ) → item < length (live_of m.fleet) → before_of (instance_of m.fleet m.before) item ≡ bin_before m.fleet m.before (get_or (live_of m.fleet) item 0)
unfolding instance_of
before_is m item l = get_or-map (bin_before m.fleet m.before) (live_of m.fleet) item 0 None l

no_bin : (m : Moment) (target id : ℕ) (k : KnownTarget) → slice_get m.fleet.known target ≡ Some k → ((n : ℕ) (c : Collector) → slice_get m.fleet.collectors n ≡ Some c → eqb c.id id ≡ false) → bin_in (length m.fleet.jobs) m.fleet.collectors m.fleet.known target id ≡ None
no_bin m target id k known none =
    ap (λ (o : Option KnownTarget). option_and_then (λ (x : KnownTarget). option_map (λ (p : ℕ). p * length m.fleet.jobs + x.job) (place_of m.fleet.collectors id)) o) known
    ∙ ap (λ (o : Option ℕ). option_map (λ (p : ℕ). p * length m.fleet.jobs + k.job) o) (position_none (λ (c : Collector). eqb c.id id) 0 m.fleet.collectors none)

-- the bin before is this one if the collector before is
bin_agrees : (m : Moment) (item bin target collector : ℕ) (o : Option ℕ) → IsFleet m.fleet → Fits m item bin target collector → is_bin (option_and_then (bin_in (length m.fleet.jobs) m.fleet.collectors m.fleet.known target) o) bin ≡ is_bin o collector
bin_agrees m item bin target collector None kept f = refl
bin_agrees m item bin target collector (Some id) kept f = elim (find_id m.fleet.collectors id) [
  | inl none ↦
      ap (λ (o : Option ℕ). is_bin o bin) (no_bin m target id f.known_as f.is_known none)
      ∙ sym (ne_eqb id collector (λ s. eqb-false f.reacher.id id (none f.place f.reacher f.found) (f.number ∙ sym s)))
  | inr h ↦
      ap (λ (o : Option ℕ). is_bin o bin) (bin_is m target id h.place f.known_as h.one kept f.is_known h.found h.number) ∙ by_id m item bin target collector id kept f h (cases_eq id collector)
]
  where
    by_id :
        (m : Moment) (item bin target collector id : ℕ) → IsFleet m.fleet → (f : Fits m item bin target collector) (h : HasId m.fleet.collectors id) → (id ≡ collector) ⊎ (id ≡ collector → ⊥)
        → eqb (h.place * length m.fleet.jobs + f.known_as.job) bin ≡ eqb id collector
    by_id m item bin target collector id kept f h (inl s) =
        let places : h.place ≡ f.place = one_place m h.place f.place h.one f.reacher kept h.found f.found (h.number ∙ s ∙ sym f.number) in
        eq-eqb (h.place * length m.fleet.jobs + f.known_as.job) bin (ap (λ (n : ℕ). n * length m.fleet.jobs + f.known_as.job) places ∙ sym f.is_place) ∙ sym (eq-eqb id collector s)
    by_id m item bin target collector id kept f h (inr d) =
        ne_eqb (h.place * length m.fleet.jobs + f.known_as.job) bin (λ e.
        let places : h.place ≡ f.place = sym (div-mul-add h.place (length m.fleet.jobs) f.known_as.job f.home) ∙ ap (λ (n : ℕ). n / length m.fleet.jobs) e ∙ place_by m item bin target collector f in
        let one : h.one ≡ f.reacher = same_some h.one f.reacher (slice_get m.fleet.collectors h.place) h.found (ap (slice_get m.fleet.collectors) places ∙ f.found) in
        d (sym h.number ∙ ap (λ (c : Collector). c.id) one ∙ f.number)) ∙ sym (ne_eqb id collector d)

-- an item keeps its bin if its target keeps its collector
was_stands : (m : Moment) (item bin target collector : ℕ) → IsFleet m.fleet → IsOnce m.before → Fits m item bin target collector → was_in (instance_of m.fleet m.before) item bin ≡ stands_in m.before (target, collector)
was_stands m item bin target collector kept once f =
    ap (λ (o : Option ℕ). is_bin o bin) (before_is m item f.in_live ∙ ap (bin_before m.fleet m.before) f.is_target) ∙ bin_agrees m item bin target collector (beside m.before target) kept f ∙ sym (stands_beside m.before (target, collector) (once target))

-- from allocations to plans
abbrev pub plan_from : Moment → List (ℕ × ℕ) → List (ℕ × ℕ)
plan_from m pairs = map (λ (q : ℕ × ℕ). (let r : ℕ × ℕ = (item_of m q.0, bin_of m q.0 q.1) in r)) pairs

all_fit : (m : Moment) (pairs : List (ℕ × ℕ)) → IsFleet m.fleet → IsSound m.fleet pairs → All (λ (q : ℕ × ℕ). Fits m (item_of m q.0) (bin_of m q.0 q.1) q.0 q.1) pairs
all_fit m pairs kept sound k d l = reached_fits m (get_or pairs k d).0 (get_or pairs k d).1 kept (sound.live k d l) (sound.reaching k d l)

capacity_least : (items limit n : ℕ) → n ≤ items → (limit ≢ 0 → n ≤ limit) → n ≤ capacity_by items limit
unfolding capacity_by
capacity_least items limit n few within = elim (cases_eq limit 0) [ inl e ↦ rw (eq-eqb limit 0 e) few | inr d ↦ rw (ne_eqb limit 0 d) (omega (arith, few, within d)) ]

item_once : (m : Moment) (pairs : List (ℕ × ℕ)) (item : ℕ) → IsFleet m.fleet → IsSound m.fleet pairs → uses_of_item (plan_from m pairs) item ≤ 1
item_once m pairs item kept sound =
    let t : ℕ = get_or (live_of m.fleet) item 0 in
    let fit = all_fit m pairs kept sound in
    let few = count_weaker (λ (q : ℕ × ℕ). eqb (item_of m q.0) item) (λ (q : ℕ × ℕ). eqb q.0 t) pairs
    (λ k d l e. eq-eqb (get_or pairs k d).0 t (sym (fit k d l).is_target ∙ ap (λ (i : ℕ). get_or (live_of m.fleet) i 0) (eqb-true (item_of m (get_or pairs k d).0) item e))) in
    omega (arith, few, sound.once t, sum_by-map (λ (r : ℕ × ℕ). cond (eqb r.0 item) 1 0) (λ (q : ℕ × ℕ). (let r : ℕ × ℕ = (item_of m q.0, bin_of m q.0 q.1) in r)) pairs)

-- a bin is a collector's share of a job
pub record IsShare (m : Moment) (pairs : List (ℕ × ℕ)) (bin : ℕ) : Type 0 where
  pub collector : ℕ
  pub job : ℕ
  pub place : ℕ
  pub one : Collector
  pub found : slice_get m.fleet.collectors place ≡ Some one
  pub number : one.id ≡ collector
  pub home : job < length m.fleet.jobs
  pub is : bin ≡ place * length m.fleet.jobs + job
  pub few : count_by (λ (q : ℕ × ℕ). eqb (bin_of m q.0 q.1) bin) pairs ≤ share_of m.fleet pairs collector job

pub bin_share : (m : Moment) (pairs : List (ℕ × ℕ)) (bin : ℕ) → IsFleet m.fleet → IsSound m.fleet pairs → (count_by (λ (q : ℕ × ℕ). eqb (bin_of m q.0 q.1) bin) pairs ≡ 0) ⊎ IsShare m pairs bin
bin_share m pairs bin kept sound = elim (passes_or (λ (q : ℕ × ℕ). eqb (bin_of m q.0 q.1) bin) pairs) [
  | inl none ↦ inl none
  | inr p ↦
      let q : ℕ × ℕ = get_or pairs p.place (0, 0) in
      let g : Fits m (item_of m q.0) (bin_of m q.0 q.1) q.0 q.1 = all_fit m pairs kept sound p.place (0, 0) p.in_range in
      let is : bin_of m q.0 q.1 ≡ bin = eqb-true (bin_of m q.0 q.1) bin p.pass in
      inr (record {
        collector = q.1;
        job = g.known_as.job;
        place = g.place;
        one = g.reacher;
        found = g.found;
        number = g.number;
        home = g.home;
        is = sym is ∙ g.is_place;
        few = count_weaker (λ (r : ℕ × ℕ). eqb (bin_of m r.0 r.1) bin) (λ (r : ℕ × ℕ). eqb r.1 q.1 && is_of_job m.fleet g.known_as.job r.0) pairs
            (λ k d l e.
            let r : ℕ × ℕ = get_or pairs k d in
            let s = same_bin m (item_of m r.0) (bin_of m r.0 r.1) r.0 r.1 (item_of m q.0) (bin_of m q.0 q.1) q.0 q.1 (all_fit m pairs kept sound k d l) g (eqb-true (bin_of m r.0 r.1) bin e ∙ sym is) in
            and_from (eqb r.1 q.1) (is_of_job m.fleet g.known_as.job r.0) (eq-eqb r.1 q.1 s.0) s.1);
      })
]

bin_within : (m : Moment) (pairs : List (ℕ × ℕ)) (bin : ℕ) → IsFleet m.fleet → IsSound m.fleet pairs → slice_index (instance_of m.fleet m.before).limits bin ≢ 0 → count_by (λ (q : ℕ × ℕ). eqb (bin_of m q.0 q.1) bin) pairs ≤ slice_index (instance_of m.fleet m.before).limits bin
bin_within m pairs bin kept sound limited = elim (bin_share m pairs bin kept sound) [
  | inl none ↦ omega (arith, none)
  | inr s ↦
      let limit : slice_index (instance_of m.fleet m.before).limits bin ≡ lower_limit (limit_at m.fleet s.job) (own_limit_at m.fleet s.collector s.job) =
      limit_of_bin m s.place s.job bin s.one kept s.found s.home s.is ∙ ap (λ (id : ℕ). lower_limit (limit_at m.fleet s.job) (own_limit_at m.fleet id s.job)) s.number in
      omega (
        arith,
        s.few,
        limit,
        lower_least (limit_at m.fleet s.job) (own_limit_at m.fleet s.collector s.job) (share_of m.fleet pairs s.collector s.job) (sound.within s.collector s.job) (sound.within_own s.collector s.job) (λ z. limited (limit ∙ z)),
      )
]

-- the plan of a sound allocation is feasible
pub plan_feasible : (m : Moment) (pairs : List (ℕ × ℕ)) → IsFleet m.fleet → IsSound m.fleet pairs → IsFeasible (instance_of m.fleet m.before) (plan_from m pairs)
plan_feasible m pairs kept sound =
    let fit = all_fit m pairs kept sound in
    let planned : ℕ × ℕ → ℕ × ℕ = λ q. (item_of m q.0, bin_of m q.0 q.1) in
    let once = λ (item : ℕ). item_once m pairs item kept sound in
    let allowed : All (λ (q : ℕ × ℕ). IsAllowed (instance_of m.fleet m.before) q.0 q.1) (plan_from m pairs) =
    All-map (λ (q : ℕ × ℕ). IsAllowed (instance_of m.fleet m.before) q.0 q.1) planned pairs (λ k d l. fits_allowed m (item_of m (get_or pairs k d).0) (bin_of m (get_or pairs k d).0 (get_or pairs k d).1) (get_or pairs k d).0 (get_or pairs k d).1 (fit k d l)) in
    let most = pairs_most (items_of (instance_of m.fleet m.before)) (plan_from m pairs) (λ k d l. allowed_item (instance_of m.fleet m.before) (get_or (plan_from m pairs) k d).0 (get_or (plan_from m pairs) k d).1 (allowed k d l)) once in
    record {
      allowed = allowed;
      once = once;
      within = λ bin.
          let same = sum_by-map (λ (r : ℕ × ℕ). cond (eqb r.1 bin) 1 0) planned pairs in
          capacity_least (items_of (instance_of m.fleet m.before)) (slice_index (instance_of m.fleet m.before).limits bin) (uses_of_bin (plan_from m pairs) bin) (omega (arith, most, count_by-le-length (λ (r : ℕ × ℕ). eqb r.1 bin) (plan_from m pairs)))
          (λ limited. omega (arith, same, bin_within m pairs bin kept sound limited));
    }

-- it keeps what the allocation keeps
plan_keeps : (m : Moment) (pairs : List (ℕ × ℕ)) → IsFleet m.fleet → IsOnce m.before → IsSound m.fleet pairs → kept (instance_of m.fleet m.before) (plan_from m pairs) ≡ count_by (stands_in m.before) pairs
plan_keeps m pairs is_kept once sound =
    sum_by-map (λ (r : ℕ × ℕ). cond (was_in (instance_of m.fleet m.before) r.0 r.1) 1 0) (λ (q : ℕ × ℕ). (let r : ℕ × ℕ = (item_of m q.0, bin_of m q.0 q.1) in r)) pairs
    ∙ sum_by-same (λ (q : ℕ × ℕ). cond (was_in (instance_of m.fleet m.before) (item_of m q.0) (bin_of m q.0 q.1)) 1 0) (λ (q : ℕ × ℕ). cond (stands_in m.before q) 1 0) pairs
    (λ k d l. ap (λ (b : Bool). (let r : ℕ = cond b 1 0 in r))
    (was_stands m (item_of m (get_or pairs k d).0) (bin_of m (get_or pairs k d).0 (get_or pairs k d).1) (get_or pairs k d).0 (get_or pairs k d).1 is_kept once (all_fit m pairs is_kept sound k d l)))

-- a bin drains if its collector does
drains_is : (m : Moment) (item bin target collector : ℕ) → IsFleet m.fleet → Fits m item bin target collector → drains (instance_of m.fleet m.before) bin ≡ is_draining m.fleet collector
unfolding instance_of
drains_is m item bin target collector is_kept f =
    draining_at (length m.fleet.jobs) m.fleet.collectors f.place f.known_as.job bin f.reacher f.found f.home f.is_place
    ∙ sym (draining_one m.fleet.collectors f.place f.reacher is_kept.ascending f.found) ∙ ap (is_draining m.fleet) f.number

-- and leaves at draining bins what the allocation leaves at draining collectors
pub plan_leaves : (m : Moment) (pairs : List (ℕ × ℕ)) → IsFleet m.fleet → IsSound m.fleet pairs → left (instance_of m.fleet m.before) (plan_from m pairs) ≡ left_by m.fleet pairs
plan_leaves m pairs is_kept sound =
    sum_by-map (λ (r : ℕ × ℕ). cond (drains (instance_of m.fleet m.before) r.1) 1 0) (λ (q : ℕ × ℕ). (let r : ℕ × ℕ = (item_of m q.0, bin_of m q.0 q.1) in r)) pairs
    ∙ sum_by-same (λ (q : ℕ × ℕ). cond (drains (instance_of m.fleet m.before) (bin_of m q.0 q.1)) 1 0) (λ (q : ℕ × ℕ). cond (is_draining m.fleet q.1) 1 0) pairs
    (λ k d l. ap (λ (b : Bool). (let r : ℕ = cond b 1 0 in r))
    (drains_is m (item_of m (get_or pairs k d).0) (bin_of m (get_or pairs k d).0 (get_or pairs k d).1) (get_or pairs k d).0 (get_or pairs k d).1 is_kept (all_fit m pairs is_kept sound k d l)))

-- from plans to allocations
sum_allocation :
    (m : Moment) (v : ℕ × ℕ → ℕ) (plan : List (ℕ × ℕ)) → IsFleet m.fleet → IsFeasible (instance_of m.fleet m.before) plan → sum_by v (allocation_of m.fleet plan) ≡ sum_by (λ (q : ℕ × ℕ). v (meant (length m.fleet.jobs) m.fleet.collectors (live_of m.fleet) q)) plan
unfolding allocation_of
sum_allocation m v plan kept feasible =
    sum_meant v (length m.fleet.jobs) m.fleet.collectors (live_of m.fleet) plan
    (λ k d l.
    let q : ℕ × ℕ = get_or plan k d in
    let f = allowed_fits m q.0 q.1 kept (feasible.allowed k d l) in
    record { in_live = f.in_live; one = f.reacher; found = ap (slice_get m.fleet.collectors) (place_by m q.0 q.1 _ _ f) ∙ f.found })
    feasible.once

pub allocation_size : (m : Moment) (plan : List (ℕ × ℕ)) → IsFleet m.fleet → IsFeasible (instance_of m.fleet m.before) plan → length (allocation_of m.fleet plan) ≡ length plan
allocation_size m plan kept feasible = omega (arith, sum_allocation m (λ q. 1) plan kept feasible, ones (allocation_of m.fleet plan), ones plan)

allocation_keeps :
    (m : Moment) (plan : List (ℕ × ℕ)) → IsFleet m.fleet → IsOnce m.before → IsFeasible (instance_of m.fleet m.before) plan → count_by (stands_in m.before) (allocation_of m.fleet plan) ≡ kept (instance_of m.fleet m.before) plan
allocation_keeps m plan is_kept once feasible =
    sum_allocation m (λ (q : ℕ × ℕ). cond (stands_in m.before q) 1 0) plan is_kept feasible
    ∙ sum_by-same (λ (q : ℕ × ℕ). cond (stands_in m.before (meant (length m.fleet.jobs) m.fleet.collectors (live_of m.fleet) q)) 1 0) (λ (q : ℕ × ℕ). cond (was_in (instance_of m.fleet m.before) q.0 q.1) 1 0) plan
    (λ k d l.
    let q : ℕ × ℕ = get_or plan k d in
    ap (λ (b : Bool). (let r : ℕ = cond b 1 0 in r)) (sym (was_stands m q.0 q.1 _ _ is_kept once (allowed_fits m q.0 q.1 is_kept (feasible.allowed k d l)))))

pub allocation_leaves : (m : Moment) (plan : List (ℕ × ℕ)) → IsFleet m.fleet → IsFeasible (instance_of m.fleet m.before) plan → left_by m.fleet (allocation_of m.fleet plan) ≡ left (instance_of m.fleet m.before) plan
allocation_leaves m plan is_kept feasible =
    sum_allocation m (λ (q : ℕ × ℕ). cond (is_draining m.fleet q.1) 1 0) plan is_kept feasible
    ∙ sum_by-same (λ (q : ℕ × ℕ). cond (is_draining m.fleet (meant (length m.fleet.jobs) m.fleet.collectors (live_of m.fleet) q).1) 1 0) (λ (q : ℕ × ℕ). cond (drains (instance_of m.fleet m.before) q.1) 1 0) plan
    (λ k d l.
    let q : ℕ × ℕ = get_or plan k d in
    ap (λ (b : Bool). (let r : ℕ = cond b 1 0 in r)) (sym (drains_is m q.0 q.1 _ _ is_kept (allowed_fits m q.0 q.1 is_kept (feasible.allowed k d l)))))

fewer : (before a b c d : ℕ) → before - a ≤ before - b → c + a ≡ before → d + b ≡ before → c ≤ d
fewer before a b c d l e f = omega arith

-- what the allocation of a feasible plan moves is what the plan moves
pub moves_alike :
    (m : Moment) (plan : List (ℕ × ℕ)) → IsFleet m.fleet → IsOnce m.before → IsSound m.fleet (allocation_of m.fleet plan) → IsFeasible (instance_of m.fleet m.before) plan → moved (instance_of m.fleet m.before) plan ≡ moved_by m.fleet m.before (allocation_of m.fleet plan)
moves_alike m plan is_kept once sound feasible = omega (arith, before_can m is_kept once, loses_the_rest m (allocation_of m.fleet plan) sound once, allocation_keeps m plan is_kept once feasible)

-- the plan of an allocation has as many pairs
pub plan_size : (m : Moment) (pairs : List (ℕ × ℕ)) → length (plan_from m pairs) ≡ length pairs
plan_size m pairs = length-map pairs (λ (q : ℕ × ℕ). (let r : ℕ × ℕ = (item_of m q.0, bin_of m q.0 q.1) in r))

-- where a plan moves no more than another allocation's, its allocation moves no more than that
pub moves_no_more :
    (m : Moment) (plan others : List (ℕ × ℕ)) → IsFleet m.fleet → IsOnce m.before → IsFeasible (instance_of m.fleet m.before) plan → IsSound m.fleet (allocation_of m.fleet plan) → IsSound m.fleet others
    → moved (instance_of m.fleet m.before) plan ≤ moved (instance_of m.fleet m.before) (plan_from m others) → moved_by m.fleet m.before (allocation_of m.fleet plan) ≤ moved_by m.fleet m.before others
moves_no_more m plan others is_kept once feasible sound fine less =
    let before = before_can m is_kept once in
    fewer (before_count (instance_of m.fleet m.before)) (kept (instance_of m.fleet m.before) plan) (kept (instance_of m.fleet m.before) (plan_from m others)) (moved_by m.fleet m.before (allocation_of m.fleet plan)) (moved_by m.fleet m.before others) less
    (omega (arith, before, loses_the_rest m (allocation_of m.fleet plan) sound once, allocation_keeps m plan is_kept once feasible))
    (omega (arith, before, loses_the_rest m others fine once, plan_keeps m others is_kept once fine))

-- the allocation of an optimal plan is the best
pub best_of : (m : Moment) (plan : List (ℕ × ℕ)) → IsFleet m.fleet → IsOnce m.before → IsSound m.fleet (allocation_of m.fleet plan) → IsOptimal (instance_of m.fleet m.before) plan → IsBest m.fleet m.before (allocation_of m.fleet plan)
best_of m plan is_kept once sound optimal =
    let size = allocation_size m plan is_kept optimal.feasible in
    record {
      sound = sound;
      covers = λ others fine. omega (arith, optimal.covers_most (plan_from m others) (plan_feasible m others is_kept fine), plan_size m others, size);
      leaves = λ others fine same.
          omega (arith, optimal.leaves_least (plan_from m others) (plan_feasible m others is_kept fine) (plan_size m others ∙ same ∙ size), plan_leaves m others is_kept fine, allocation_leaves m plan is_kept optimal.feasible);
      moves = λ others fine same alike.
          let leaves : left (instance_of m.fleet m.before) (plan_from m others) ≡ left (instance_of m.fleet m.before) plan = plan_leaves m others is_kept fine ∙ alike ∙ allocation_leaves m plan is_kept optimal.feasible in
          moves_no_more m plan others is_kept once optimal.feasible sound fine (optimal.moves_least (plan_from m others) (plan_feasible m others is_kept fine) (plan_size m others ∙ same ∙ size) leaves);
    }

-- the allocation of a feasible plan is sound
pub allocation_sound : (m : Moment) (plan : List (ℕ × ℕ)) → IsFleet m.fleet → IsFeasible (instance_of m.fleet m.before) plan → IsSound m.fleet (allocation_of m.fleet plan)
allocation_sound m plan is_kept feasible =
    record {
      live = allocation_live m plan;
      once = allocation_once m plan;
      reaching = allocation_reaching m plan is_kept feasible.allowed;
      within = allocation_within m plan is_kept feasible;
      within_own = allocation_within_own m plan is_kept feasible;
    }

pub carried_over : (m : Moment) (plan : List (ℕ × ℕ)) → IsFleet m.fleet → IsOnce m.before → IsFeasible (instance_of m.fleet m.before) plan → IsCarriedOver m.fleet m.before plan
carried_over m plan is_kept once feasible =
    let sound = allocation_sound m plan is_kept feasible in
    record {
      sound = sound;
      ascending = allocation_ascending m plan;
      covers = allocation_size m plan is_kept feasible;
      leaves = sym (allocation_leaves m plan is_kept feasible);
      moves = moves_alike m plan is_kept once sound feasible;
    }

-- a feasible plan whose allocation is a best one is optimal
pub optimal_by : (m : Moment) (plan : List (ℕ × ℕ)) → IsFleet m.fleet → IsOnce m.before → IsFeasible (instance_of m.fleet m.before) plan → IsBest m.fleet m.before (allocation_of m.fleet plan) → IsOptimal (instance_of m.fleet m.before) plan
optimal_by m plan is_kept once feasible best =
    let mine = carried_over m plan is_kept once feasible in
    record {
      feasible = feasible;
      covers_most = λ others fine. let theirs = carried_over m others is_kept once fine in omega (arith, best.covers (allocation_of m.fleet others) theirs.sound, mine.covers, theirs.covers);
      leaves_least = λ others fine same.
          let theirs = carried_over m others is_kept once fine in
          omega (arith, best.leaves (allocation_of m.fleet others) theirs.sound (omega (arith, same, mine.covers, theirs.covers)), mine.leaves, theirs.leaves);
      moves_least = λ others fine same alike.
          let theirs = carried_over m others is_kept once fine in
          omega (arith, best.moves (allocation_of m.fleet others) theirs.sound (omega (arith, same, mine.covers, theirs.covers)) (omega (arith, alike, mine.leaves, theirs.leaves)), mine.moves, theirs.moves);
    }
