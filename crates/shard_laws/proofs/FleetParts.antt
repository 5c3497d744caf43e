-- What the parts of a fleet have.
use Rattle.std.proofs.Common.{◌≡◌, ◌≢◌, ◌⊎◌, inl, inr, ◌==◌, ◌&&◌, ◌||◌, ℕ, zero, suc, ◌+◌, ◌<◌, ◌≤◌, Bool, true, false, List, [], ◌∷◌, All, Option, Some, None, cond, count_by, sum_by, length, refl, sym, ap, subst, ◌∙◌, arith}
use Rattle.std.specs.Prelude.{filter, map, not, slice_get, slice_index_or}
use Rattle.std.specs.List.{list_any}
use Rattle.std.specs.Option.{option_map_or}
use Rattle.std.proofs.lemmas.Bool.{eq-eqb, eqb-true, ne_eqb}
use Rattle.std.proofs.lemmas.Bool.Decides.{eqb_tells}
use Rattle.std.proofs.lemmas.List.Elements.{All-filter, All-head, All-tail, All-weaker, filter_passes}
use Rattle.std.proofs.lemmas.List.Sums.{sum_by-cons}
use Rattle.price_certificate.specs.Certificate.{sum_below}
use Rattle.price_certificate.proofs.Sums.{sum_below-same, sum_by-same}
use Rattle.fleet.specs.Fleet.{FleetState, is_draining, is_joined, is_live}
use Rattle.fleet.specs.IsFleet.{IsFleet}
use Rattle.fleet.specs.Live.{is_in, is_listed, is_listed_in}
use Rattle.fleet.specs.Orderly.{is_of, listed_at}
use Rattle.fleet.specs.declared.known_target.KnownTarget.{KnownTarget}
use Rattle.fleet_assignment.specs.Best.{IsReached, IsSound, left_by, limit_at, moved_by, own_limit_at, share_of, stands_in}
use Rattle.fleet_assignment.specs.Within.{AreWithin, cap_at}
use Rattle.shard_laws.specs.Parts.{is_of_part, lists_from, pairs_of, part_at, part_of}
use Rattle.shard_laws.proofs.PartFilters.{all_of_parts, any_filter-same, count_filter-le, count_filter-same}
use Rattle.shard_laws.proofs.PartSums.{sum_of_parts}
use Rattle.shard_laws.proofs.Splits.{Split}

-- ---- which targets are live in a part

both : (a b : Bool) → (a && b) ≡ true → (a ≡ true) × (b ≡ true)
both true b e = (refl, e)
both false b e = absurd (cc e)

part_by : (part : ℕ → ℕ) (job : ℕ) (o : Option KnownTarget) → option_map_or (λ (k : KnownTarget). k.job == job) o false ≡ true → option_map_or (λ (k : KnownTarget). part k.job) o 0 ≡ part job
part_by part job None e = absurd (cc e)
part_by part job (Some k) e = ap part (eqb-true k.job job e)

-- the part of a job's target is that of the job
part_of_job : (part : ℕ → ℕ) (known : List KnownTarget) (job target : ℕ) → is_of known job target ≡ true → part_at part known target ≡ part job
part_of_job part known job target e = part_by part job (slice_get known target) e

-- a number of a list is one of those of which all is said
is_one : (P : ℕ → Type 0) (numbers : List ℕ) (target : ℕ) → All P numbers → is_in numbers target ≡ true → P target
is_one P [] target all e = absurd (cc e)
is_one P (n ∷ numbers) target all e = elim (eqb_tells n target) [
  | inl s ↦ subst P s.1 (All-head P n numbers all)
  | inr d ↦ is_one P numbers target (All-tail P n numbers all) (sym (ap (λ (b : Bool). b || is_in numbers target) d.0) ∙ e)
]

is_one_of : (P : ℕ → Type 0) (sources : List (List ℕ)) (target : ℕ) → ((s : ℕ) → All P (slice_index_or sources s [])) → is_listed_in sources target ≡ true → P target
is_one_of P [] target all e = absurd (cc e)
is_one_of P (numbers ∷ sources) target all e = go (is_in numbers target) refl (is_one_of P sources target (λ s. all (suc s)))
  where
    go : (b : Bool) → is_in numbers target ≡ b → (is_listed_in sources target ≡ true → P target) → P target
    go true t later = is_one P numbers target (all 0) t
    go false t later = later (sym (ap (λ (b : Bool). b || is_listed_in sources target) t) ∙ e)

nothing_in : (sources : List (List ℕ)) (target : ℕ) → is_listed_in (map (λ (numbers : List ℕ). []) sources) target ≡ false
nothing_in [] target = refl
nothing_in (numbers ∷ sources) target = nothing_in sources target

live_by : (a b m c l : Bool) → (a ≡ true → m ≡ c) → l ≡ (b && m) → (cond c a false || l) ≡ ((a || b) && m)
live_by false b m true l h e = e
live_by false b m false l h e = e
live_by true b true true l h e = refl
live_by true b true false l h e = let s : true ≡ false = h refl in cc
live_by true b false true l h e = let s : false ≡ true = h refl in cc
live_by true b false false l h e = go b e
  where
    go : (b : Bool) → l ≡ (b && false) → l ≡ false
    go true e = e
    go false e = e

cond_listed : (c : Bool) (sources : List (List ℕ)) (target : ℕ) → is_listed_in (cond c sources (map (λ (numbers : List ℕ). []) sources)) target ≡ cond c (is_listed_in sources target) false
cond_listed true sources target = refl
cond_listed false sources target = nothing_in sources target

listed_in_part : (part : ℕ → ℕ) (p job target : ℕ) (known : List KnownTarget) (listed : List (List (List ℕ))) → ((j s : ℕ) → All (λ (t : ℕ). is_of known (job + j) t ≡ true) (listed_at listed j s))
    → is_listed (lists_from part p job listed) target ≡ (is_listed listed target && (part_at part known target == p))
listed_in_part part p job target known [] own = refl
listed_in_part part p job target known (sources ∷ listed) own =
    let mine : Bool = part_at part known target == p in
    let P : ℕ → Type 0 = λ t. is_of known job t ≡ true in
    let here : (s : ℕ) → All P (slice_index_or sources s []) = λ s. All-weaker (λ (t : ℕ). is_of known (job + 0) t ≡ true) P (λ t e. subst (λ (j : ℕ). is_of known j t ≡ true) (omega arith) e) (slice_index_or sources s []) (own 0 s) in
    let same : is_listed_in sources target ≡ true → mine ≡ (part job == p) = λ e. ap (λ (n : ℕ). n == p) (part_of_job part known job target (is_one_of P sources target here e)) in
    let later = listed_in_part part p (job + 1) target known listed (λ j s. All-weaker (λ (t : ℕ). is_of known (job + suc j) t ≡ true) (λ (t : ℕ). is_of known ((job + 1) + j) t ≡ true) (λ t e. subst (λ (i : ℕ). is_of known i t ≡ true) (omega arith) e) (listed_at listed j s) (own (suc j) s)) in
    ap (λ (b : Bool). b || is_listed (lists_from part p (job + 1) listed) target) (cond_listed (part job == p) sources target)
    ∙ live_by (is_listed_in sources target) (is_listed listed target) mine (part job == p) (is_listed (lists_from part p (job + 1) listed) target) same later

-- live in a part is what is live and of the part
pub live_in_part : (part : ℕ → ℕ) (p : ℕ) (fleet : FleetState) → IsFleet fleet → (target : ℕ) → is_live (part_of part p fleet) target ≡ (is_live fleet target && (part_at part fleet.known target == p))
live_in_part part p fleet valid target = listed_in_part part p 0 target fleet.known fleet.listed (λ j s. All-weaker (λ (t : ℕ). is_of fleet.known j t ≡ true) (λ (t : ℕ). is_of fleet.known (0 + j) t ≡ true) (λ t e. subst (λ (i : ℕ). is_of fleet.known i t ≡ true) (omega arith) e) (listed_at fleet.listed j s) (valid.orderly.own j s))

-- ---- sound in the parts

reached_in : (part : ℕ → ℕ) (p : ℕ) (fleet : FleetState) (target collector : ℕ) → IsReached fleet target collector → IsReached (part_of part p fleet) target collector
reached_in part p fleet target collector r = record { place = r.place; reacher = r.reacher; known_as = r.known_as; is_live_one = r.is_live_one; number = r.number; is_known = r.is_known; reached = r.reached }

reached_of : (part : ℕ → ℕ) (p : ℕ) (fleet : FleetState) (target collector : ℕ) → IsReached (part_of part p fleet) target collector → IsReached fleet target collector
reached_of part p fleet target collector r = record { place = r.place; reacher = r.reacher; known_as = r.known_as; is_live_one = r.is_live_one; number = r.number; is_known = r.is_known; reached = r.reached }

and_true : (a b : Bool) → a ≡ true → b ≡ true → (a && b) ≡ true
and_true true b e f = f
and_true false b e f = absurd (cc e)

live_parted : (part : ℕ → ℕ) (p : ℕ) (fleet : FleetState) → IsFleet fleet → (xs : List (ℕ × ℕ)) → All (λ (q : ℕ × ℕ). is_live fleet q.0 ≡ true) xs → All (λ (q : ℕ × ℕ). is_live (part_of part p fleet) q.0 ≡ true) (pairs_of part p fleet.known xs)
live_parted part p fleet valid xs all =
    let ys = pairs_of part p fleet.known xs in
    let kept = All-filter (is_of_part part p fleet.known) (λ (q : ℕ × ℕ). is_live fleet q.0 ≡ true) xs all in
    let passed = filter_passes (is_of_part part p fleet.known) xs in
    λ k d l. live_in_part part p fleet valid _ ∙ and_true _ _ (kept k d l) (passed k d l)

pub sound_parted : (part : ℕ → ℕ) (p : ℕ) (fleet : FleetState) → IsFleet fleet → (xs : List (ℕ × ℕ)) → IsSound fleet xs → IsSound (part_of part p fleet) (pairs_of part p fleet.known xs)
sound_parted part p fleet valid xs s =
    let test : ℕ × ℕ → Bool = is_of_part part p fleet.known in
    record {
      live = live_parted part p fleet valid xs s.live;
      once = λ target. omega (arith, count_filter-le (λ (q : ℕ × ℕ). q.0 == target) test xs, s.once target);
      reaching = All-weaker (λ (q : ℕ × ℕ). IsReached fleet q.0 q.1) (λ (q : ℕ × ℕ). IsReached (part_of part p fleet) q.0 q.1) (λ q r. reached_in part p fleet q.0 q.1 r) (filter test xs) (All-filter test (λ (q : ℕ × ℕ). IsReached fleet q.0 q.1) xs s.reaching);
      within = λ collector job some. omega (arith, count_filter-le (λ (q : ℕ × ℕ). (q.1 == collector) && is_of fleet.known job q.0) test xs, s.within collector job some);
      within_own = λ collector job some. omega (arith, count_filter-le (λ (q : ℕ × ℕ). (q.1 == collector) && is_of fleet.known job q.0) test xs, s.within_own collector job some);
    }

-- a job's pairs are all in its part
share_in_part : (part : ℕ → ℕ) (fleet : FleetState) (xs : List (ℕ × ℕ)) (collector job : ℕ) → share_of (part_of part (part job) fleet) (pairs_of part (part job) fleet.known xs) collector job ≡ share_of fleet xs collector job
share_in_part part fleet xs collector job =
    count_filter-same (λ (q : ℕ × ℕ). (q.1 == collector) && is_of fleet.known job q.0) (is_of_part part (part job) fleet.known)
    (λ q e. eq-eqb (part_at part fleet.known q.0) (part job) (part_of_job part fleet.known job q.0 (both (q.1 == collector) (is_of fleet.known job q.0) e).1)) xs

-- and so are a target's
once_in_part : (part : ℕ → ℕ) (known : List KnownTarget) (xs : List (ℕ × ℕ)) (target : ℕ) → count_by (λ (q : ℕ × ℕ). q.0 == target) (pairs_of part (part_at part known target) known xs) ≡ count_by (λ (q : ℕ × ℕ). q.0 == target) xs
once_in_part part known xs target =
    count_filter-same (λ (q : ℕ × ℕ). q.0 == target) (is_of_part part (part_at part known target) known)
    (λ q e. eq-eqb (part_at part known q.0) (part_at part known target) (ap (part_at part known) (eqb-true q.0 target e))) xs

part_below : (part : ℕ → ℕ) (n : ℕ) → ((job : ℕ) → part job < n) → (o : Option KnownTarget) → option_map_or (λ (k : KnownTarget). part k.job) o 0 < n
part_below part n parted None = omega (arith, parted 0)
part_below part n parted (Some k) = parted k.job

pub sound_joined : (part : ℕ → ℕ) (n : ℕ) (fleet : FleetState) → IsFleet fleet → ((job : ℕ) → part job < n) → (xs : List (ℕ × ℕ)) → ((p : ℕ) → p < n → IsSound (part_of part p fleet) (pairs_of part p fleet.known xs)) → IsSound fleet xs
sound_joined part n fleet valid parted xs each =
    let test : ℕ → ℕ × ℕ → Bool = λ p q. is_of_part part p fleet.known q in
    let place : ℕ × ℕ → ℕ = λ q. part_at part fleet.known q.0 in
    let placed : (q : ℕ × ℕ) → part_at part fleet.known q.0 < n = λ q. part_below part n parted (slice_get fleet.known q.0) in
    let passes : (q : ℕ × ℕ) → is_of_part part (part_at part fleet.known q.0) fleet.known q ≡ true = λ q. eq-eqb (part_at part fleet.known q.0) (part_at part fleet.known q.0) refl in
    record {
      live = all_of_parts (λ (q : ℕ × ℕ). is_live fleet q.0 ≡ true) test place n placed passes xs
          (λ p l. All-weaker (λ (q : ℕ × ℕ). is_live (part_of part p fleet) q.0 ≡ true) (λ (q : ℕ × ℕ). is_live fleet q.0 ≡ true) (λ q e. (both _ _ (sym (live_in_part part p fleet valid q.0) ∙ e)).0) (pairs_of part p fleet.known xs) (each p l).live);
      once = λ target. (let here = (each (part_at part fleet.known target) (part_below part n parted (slice_get fleet.known target))).once target in omega (arith, here, once_in_part part fleet.known xs target));
      reaching = all_of_parts (λ (q : ℕ × ℕ). IsReached fleet q.0 q.1) test place n placed passes xs
          (λ p l. All-weaker (λ (q : ℕ × ℕ). IsReached (part_of part p fleet) q.0 q.1) (λ (q : ℕ × ℕ). IsReached fleet q.0 q.1) (λ q r. reached_of part p fleet q.0 q.1 r) (pairs_of part p fleet.known xs) (each p l).reaching);
      within = λ collector job some. (let here = (each (part job) (parted job)).within collector job some in omega (arith, here, share_in_part part fleet xs collector job));
      within_own = λ collector job some. (let here = (each (part job) (parted job)).within_own collector job some in omega (arith, here, share_in_part part fleet xs collector job));
    }

-- ---- within caps in the parts

pub within_parted : (part : ℕ → ℕ) (p : ℕ) (fleet : FleetState) (caps : List ℕ) (xs : List (ℕ × ℕ)) → AreWithin fleet caps xs → AreWithin (part_of part p fleet) caps (pairs_of part p fleet.known xs)
within_parted part p fleet caps xs w collector job l = omega (arith, count_filter-le (λ (q : ℕ × ℕ). (q.1 == collector) && is_of fleet.known job q.0) (is_of_part part p fleet.known) xs, w collector job l)

pub within_joined : (part : ℕ → ℕ) (n : ℕ) (fleet : FleetState) (caps : List ℕ) → ((job : ℕ) → part job < n) → (xs : List (ℕ × ℕ)) → ((p : ℕ) → p < n → AreWithin (part_of part p fleet) caps (pairs_of part p fleet.known xs)) → AreWithin fleet caps xs
within_joined part n fleet caps parted xs each collector job l = (let here = each (part job) (parted job) collector job l in omega (arith, here, share_in_part part fleet xs collector job))

-- ---- how many are moved in the parts

stands_in_part : (part : ℕ → ℕ) (p : ℕ) (known : List KnownTarget) (xs : List (ℕ × ℕ)) (q : ℕ × ℕ) → is_of_part part p known q ≡ true → stands_in (pairs_of part p known xs) q ≡ stands_in xs q
stands_in_part part p known xs q of =
    any_filter-same (λ (r : ℕ × ℕ). (r.0 == q.0) && (r.1 == q.1)) (is_of_part part p known)
    (λ r e. ap (λ (t : ℕ). part_at part known t == p) (eqb-true r.0 q.0 (both (r.0 == q.0) (r.1 == q.1) e).0) ∙ of) xs

and_with : (a m : Bool) → m ≡ true → (a && m) ≡ a
and_with true m e = e
and_with false m e = refl

abbrev one_if : Bool → ℕ
one_if b = cond b 1 0

-- whether a pair of before is moved, where these stand
abbrev moves : FleetState → List (ℕ × ℕ) → ℕ × ℕ → Bool
moves fleet xs q = is_live fleet q.0 && is_joined fleet q.1 && not (stands_in xs q)

moves_in_part : (part : ℕ → ℕ) (p : ℕ) (fleet : FleetState) → IsFleet fleet → (xs : List (ℕ × ℕ)) (q : ℕ × ℕ) → is_of_part part p fleet.known q ≡ true → moves (part_of part p fleet) (pairs_of part p fleet.known xs) q ≡ moves fleet xs q
moves_in_part part p fleet valid xs q of =
    ap (λ (b : Bool). b && is_joined fleet q.1 && not (stands_in (pairs_of part p fleet.known xs) q)) (live_in_part part p fleet valid q.0 ∙ and_with (is_live fleet q.0) (is_of_part part p fleet.known q) of)
    ∙ ap (λ (b : Bool). is_live fleet q.0 && is_joined fleet q.1 && not b) (stands_in_part part p fleet.known xs q of)

pub moved_in_part : (part : ℕ → ℕ) (p : ℕ) (fleet : FleetState) → IsFleet fleet → (before xs : List (ℕ × ℕ)) → moved_by (part_of part p fleet) (pairs_of part p fleet.known before) (pairs_of part p fleet.known xs) ≡ count_by (moves fleet xs) (pairs_of part p fleet.known before)
moved_in_part part p fleet valid before xs =
    let ys = pairs_of part p fleet.known before in
    let here : ℕ × ℕ → ℕ = λ q. one_if (moves (part_of part p fleet) (pairs_of part p fleet.known xs) q) in
    let all : ℕ × ℕ → ℕ = λ q. one_if (moves fleet xs q) in
    sum_by-same here all ys
    (All-weaker (λ (q : ℕ × ℕ). is_of_part part p fleet.known q ≡ true) (λ (q : ℕ × ℕ). here q ≡ all q) (λ q of. ap one_if (moves_in_part part p fleet valid xs q of)) ys (filter_passes (is_of_part part p fleet.known) before))

-- ---- a fleet and its parts

ones_of : {X : Type 0} (xs : List X) → sum_by (λ x. 1) xs ≡ length xs
ones_of [] = refl
ones_of {X} (x ∷ xs) = omega (arith, ones_of xs, sum_by-cons (λ (y : X). (let n : ℕ = 1 in n)) x xs)

abbrev one : ℕ × ℕ → ℕ
one q = 1

pub split_of : (part : ℕ → ℕ) (n : ℕ) (fleet : FleetState) (before : List (ℕ × ℕ)) → IsFleet fleet → ((job : ℕ) → part job < n) → (within : List (ℕ × ℕ) → Type 0) (within_in : ℕ → List (ℕ × ℕ) → Type 0)
    → ((xs : List (ℕ × ℕ)) → within xs → (p : ℕ) → p < n → within_in p (pairs_of part p fleet.known xs)) → ((xs : List (ℕ × ℕ)) → ((p : ℕ) → p < n → within_in p (pairs_of part p fleet.known xs)) → within xs)
    → Split n (λ p. is_of_part part p fleet.known) (IsSound fleet) within (λ p. IsSound (part_of part p fleet)) within_in (left_by fleet) (moved_by fleet before) (λ p. moved_by (part_of part p fleet) (pairs_of part p fleet.known before))
split_of part n fleet before valid parted within within_in to from =
    let place : ℕ × ℕ → ℕ = λ q. part_at part fleet.known q.0 in
    let placed : (q : ℕ × ℕ) → part_at part fleet.known q.0 < n = λ q. part_below part n parted (slice_get fleet.known q.0) in
    record {
      parted = λ xs s p l. sound_parted part p fleet valid xs s;
      joined = λ xs each. sound_joined part n fleet valid parted xs each;
      parted_within = to;
      joined_within = from;
      own = λ p xs s. All-weaker (λ (q : ℕ × ℕ). is_live (part_of part p fleet) q.0 ≡ true) (λ (q : ℕ × ℕ). is_of_part part p fleet.known q ≡ true) (λ q e. (both (is_live fleet q.0) (is_of_part part p fleet.known q) (sym (live_in_part part p fleet valid q.0) ∙ e)).1) xs s.live;
      apart = λ p r q e d. ne_eqb (part_at part fleet.known q.0) r (λ s. d (sym s ∙ eqb-true (part_at part fleet.known q.0) p e));
      lengths = λ xs. sym (ones_of xs) ∙ sum_of_parts place one n placed xs ∙ sum_below-same (λ p. sum_by one (pairs_of part p fleet.known xs)) (λ p. length (pairs_of part p fleet.known xs)) n (λ p l. ones_of (pairs_of part p fleet.known xs));
      lefts = λ xs. sum_of_parts place (λ q. one_if (is_draining fleet q.1)) n placed xs;
      moveds = λ xs. sum_of_parts place (λ q. one_if (moves fleet xs q)) n placed before ∙ sum_below-same (λ p. count_by (moves fleet xs) (pairs_of part p fleet.known before)) (λ p. moved_by (part_of part p fleet) (pairs_of part p fleet.known before) (pairs_of part p fleet.known xs)) n (λ p l. sym (moved_in_part part p fleet valid before xs));
    }
