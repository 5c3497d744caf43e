-- What an allocation moves: the pairs that it loses are those that could be kept, less those that it keeps.
use Rattle.std.proofs.Common.{◌≡◌, ℕ, zero, suc, ◌+◌, ◌*◌, ◌≤◌, ◌&&◌, ◌||◌, List, [], ◌∷◌, Bool, true, false, Option, Some, None, All, length, get_or, cond, eqb, count_by, refl, sym, ap, subst, ◌∙◌, inl, inr, arith}
use Rattle.std.specs.Prelude.{Contains, is_some, not, option_and_then, slice_get}
use Rattle.std.specs.List.{list_any, position_from}
use Rattle.std.specs.Option.{option_map, option_map_or}
use Rattle.std.proofs.lemmas.Bool.{and_from, cases_eq, eq-eqb, ne_eqb, eqb-true}
use Rattle.std.proofs.lemmas.List.Folds.{Any-from_list_any, list_any_at}
use Rattle.std.proofs.lemmas.List.Sums.{sum_by-cons}
use Rattle.std.proofs.lemmas.List.{get_or_default}
use Rattle.std.proofs.lemmas.Option.{slice_get_within, get_or_from_slice_get}
use Rattle.price_certificate.proofs.Sums.{sum_by-add, sum_by-same}
use Rattle.price_certificate.specs.Assignment.{kept}
use Rattle.price_certificate.specs.Problem.{before_count}
use Rattle.fleet_assignment.specs.Beside.{beside}
use Rattle.fleet.specs.Fleet.{is_joined, is_live, live_of}
use Rattle.fleet_assignment.proofs.Moment.{Moment}
use Rattle.fleet_assignment.specs.Best.{IsReached, IsSound, moved_by, stands_in}
use Rattle.fleet_assignment.specs.Instance.{bin_before, bin_in, instance_of, place_of}
use Rattle.fleet.specs.IsFleet.{IsFleet}
use Rattle.fleet.specs.Live.{is_in, is_listed_in}
use Rattle.fleet.specs.Orderly.{is_of}
use Rattle.fleet.specs.declared.known_target.KnownTarget.{KnownTarget}
use Rattle.fleet.specs.declared.collector.Collector.{Collector}
use Rattle.fleet.proofs.Chosen.{chosen_has, chosen_once, chosen_pass}
use Rattle.fleet_assignment.proofs.CountLemmas.{absent, beside_none, sum_by-map}
use Rattle.fleet.proofs.OrderLemmas.{in_all}

-- a test counts as another where it answers alike
count_same : {X : Type 0} (p q : X → Bool) (xs : List X) → All (λ x. p x ≡ q x) xs → count_by p xs ≡ count_by q xs
count_same {X} p q xs same = sum_by-same (λ (x : X). cond (p x) 1 0) (λ (x : X). cond (q x) 1 0) xs (λ k d l. ap (λ (b : Bool). (let r : ℕ = cond b 1 0 in r)) (same k d l))

count_none : {X : Type 0} (xs : List X) → count_by (λ (x : X). false) xs ≡ 0
count_none [] = refl
count_none {X} (x ∷ xs) = omega (arith, count_none xs, sum_by-cons (λ (y : X). cond false 1 0) x xs)

eqb_turned : (a b : ℕ) → eqb a b ≡ eqb b a
eqb_turned a b = elim (cases_eq a b) [
  | inl e ↦ eq-eqb a b e ∙ sym (eq-eqb b a (sym e))
  | inr d ↦ ne_eqb a b d ∙ sym (ne_eqb b a (λ e. d (sym e)))
]

-- the pair is this one
abbrev is_pair : ℕ × ℕ → ℕ × ℕ → Bool
is_pair other q = eqb other.0 q.0 && eqb other.1 q.1

pair_turned : (x y : ℕ × ℕ) → is_pair x y ≡ is_pair y x
pair_turned x y = (λ i. eqb_turned x.0 y.0 i && eqb_turned x.1 y.1 i)

-- a pair of a list in which no target stands twice stands there once
stands_once_by :
    (c d s : Bool) (n uses : ℕ) → cond c 1 0 + uses ≤ 1 → (uses ≡ 0 → s ≡ false) → n ≡ cond s 1 0 → cond (c && d) 1 0 + n ≡ cond ((c && d) || s) 1 0
stands_once_by true true s n uses few none is = omega (arith, is, ap (λ (b : Bool). (let r : ℕ = cond b 1 0 in r)) (none (omega arith)))
stands_once_by true false s n uses few none is = omega (arith, is)
stands_once_by false d s n uses few none is = omega (arith, is)

stands_once : (ys : List (ℕ × ℕ)) (x : ℕ × ℕ) → count_by (λ (r : ℕ × ℕ). eqb r.0 x.0) ys ≤ 1 → count_by (λ (q : ℕ × ℕ). is_pair x q) ys ≡ cond (stands_in ys x) 1 0
stands_once [] x few = refl
stands_once (y ∷ ys) x few =
    let uses = sum_by-cons (λ (r : ℕ × ℕ). cond (eqb r.0 x.0) 1 0) y ys in
    let more = sum_by-cons (λ (q : ℕ × ℕ). cond (is_pair x q) 1 0) y ys in
    let turned = ap (λ (b : Bool). (let r : ℕ = cond b 1 0 in r)) (pair_turned x y) in
    let is = stands_once_by (eqb y.0 x.0) (eqb y.1 x.1) (stands_in ys x) (count_by (λ (q : ℕ × ℕ). is_pair x q) ys) (count_by (λ (r : ℕ × ℕ). eqb r.0 x.0) ys) (omega (arith, few, uses)) (absent ys x) (stands_once ys x (omega (arith, few, uses))) in
    omega (arith, more, turned, is)

-- as many pairs of one list stand in another as the other way round
apart_by : (c d s : Bool) (n : ℕ) → cond c 1 0 + n ≤ 1 → (n ≡ 0 → s ≡ false) → cond ((c && d) || s) 1 0 ≡ cond (c && d) 1 0 + cond s 1 0
apart_by true true s n few none = omega (arith, ap (λ (b : Bool). (let r : ℕ = cond b 1 0 in r)) (none (omega arith)))
apart_by true false s n few none = omega arith
apart_by false d s n few none = omega arith

pub both_ways : (xs ys : List (ℕ × ℕ)) → ((t : ℕ) → count_by (λ (q : ℕ × ℕ). eqb q.0 t) xs ≤ 1) → ((t : ℕ) → count_by (λ (q : ℕ × ℕ). eqb q.0 t) ys ≤ 1) → count_by (stands_in ys) xs ≡ count_by (stands_in xs) ys
both_ways [] ys once other = sym (count_none ys)
both_ways (x ∷ xs) ys once other =
    let uses = λ (t : ℕ). sum_by-cons (λ (r : ℕ × ℕ). cond (eqb r.0 t) 1 0) x xs in
    let rest = both_ways xs ys (λ t. omega (arith, once t, uses t)) other in
    let first = sum_by-cons (λ (q : ℕ × ℕ). cond (stands_in ys q) 1 0) x xs in
    let split = sum_by-same (λ (q : ℕ × ℕ). cond (is_pair x q || stands_in xs q) 1 0) (λ (q : ℕ × ℕ). cond (is_pair x q) 1 0 + cond (stands_in xs q) 1 0) ys
    (λ k d l. let q : ℕ × ℕ = get_or ys k d in apart_by (eqb x.0 q.0) (eqb x.1 q.1) (stands_in xs q) (count_by (λ (r : ℕ × ℕ). eqb r.0 q.0) xs) (omega (arith, once q.0, uses q.0)) (absent xs q)) in
    let added = sum_by-add (λ (q : ℕ × ℕ). cond (is_pair x q) 1 0) (λ (q : ℕ × ℕ). cond (stands_in xs q) 1 0) ys in
    omega (arith, rest, first, split, added, stands_once ys x (other x.0))

-- the pairs of the current allocation that can be kept
abbrev pub can_keep : Moment → ℕ × ℕ → Bool
can_keep m q = is_live m.fleet q.0 && is_joined m.fleet q.1

lost_by : (a b s : Bool) → (s ≡ true → (a && b) ≡ true) → cond (a && b && not s) 1 0 + cond s 1 0 ≡ cond (a && b) 1 0
lost_by true true true h = refl
lost_by true true false h = refl
lost_by true false true h = let e : false ≡ true = h refl in cc
lost_by true false false h = refl
lost_by false b true h = let e : false ≡ true = h refl in cc
lost_by false b false h = refl

reached_joined : (m : Moment) (target collector : ℕ) → IsReached m.fleet target collector → is_joined m.fleet collector ≡ true
reached_joined m target collector r =
    list_any_at (λ (c : Collector). eqb c.id collector) m.fleet.collectors r.place r.reacher (slice_get_within m.fleet.collectors r.place r.reacher r.is_live_one)
    (ap (λ (c : Collector). eqb c.id collector) (get_or_from_slice_get m.fleet.collectors r.place r.reacher r.reacher r.is_live_one) ∙ eq-eqb r.reacher.id collector r.number)

-- a pair that stands in a sound allocation can be kept
sound_can : (m : Moment) (pairs : List (ℕ × ℕ)) (q : ℕ × ℕ) → IsSound m.fleet pairs → stands_in pairs q ≡ true → can_keep m q ≡ true
sound_can m pairs q sound e =
    let found = Any-from_list_any (λ (r : ℕ × ℕ). is_pair r q) pairs e in
    let r : ℕ × ℕ = found.1 in
    let read : get_or pairs found.0 r ≡ r = found.3 in
    let both = both_true (eqb r.0 q.0) (eqb r.1 q.1) found.4 in
    and_from (is_live m.fleet q.0) (is_joined m.fleet q.1)
    (ap (is_live m.fleet) (sym (eqb-true r.0 q.0 both.0)) ∙ ap (λ (x : ℕ × ℕ). is_live m.fleet x.0) (sym read) ∙ sound.live found.0 r found.2)
    (ap (is_joined m.fleet) (sym (eqb-true r.1 q.1 both.1)) ∙ reached_joined m r.0 r.1 (subst (λ (x : ℕ × ℕ). IsReached m.fleet x.0 x.1) read (sound.reaching found.0 r found.2)))
  where
    both_true : (a b : Bool) → (a && b) ≡ true → (a ≡ true) × (b ≡ true)
    both_true true true e = (refl, refl)
    both_true true false e = (refl, e)
    both_true false b e = cc

-- what a sound allocation loses and what it keeps are all that can be kept
pub loses_the_rest : (m : Moment) (pairs : List (ℕ × ℕ)) → IsSound m.fleet pairs → ((t : ℕ) → count_by (λ (q : ℕ × ℕ). eqb q.0 t) m.before ≤ 1) → moved_by m.fleet m.before pairs + count_by (stands_in m.before) pairs ≡ count_by (can_keep m) m.before
loses_the_rest m pairs sound once =
    let before : List (ℕ × ℕ) = m.before in
    let added = sum_by-add (λ (q : ℕ × ℕ). cond (is_live m.fleet q.0 && is_joined m.fleet q.1 && not (stands_in pairs q)) 1 0) (λ (q : ℕ × ℕ). cond (stands_in pairs q) 1 0) before in
    let same = sum_by-same (λ (q : ℕ × ℕ). cond (is_live m.fleet q.0 && is_joined m.fleet q.1 && not (stands_in pairs q)) 1 0 + cond (stands_in pairs q) 1 0) (λ (q : ℕ × ℕ). cond (can_keep m q) 1 0) before
    (λ k d l. let q : ℕ × ℕ = get_or before k d in lost_by (is_live m.fleet q.0) (is_joined m.fleet q.1) (stands_in pairs q) (sound_can m pairs q sound)) in
    omega (arith, added, same, both_ways before pairs once sound.once)

-- a target that a source lists is a known one
pub live_known : (m : Moment) (target : ℕ) → IsFleet m.fleet → is_live m.fleet target ≡ true → (k : KnownTarget) × (slice_get m.fleet.known target ≡ Some k)
live_known m target kept e =
    let job = Any-from_list_any (λ (sources : List (List ℕ)). is_listed_in sources target) m.fleet.listed e in
    let source = Any-from_list_any (λ (numbers : List ℕ). is_in numbers target) job.1 job.4 in
    let lists : get_or (get_or m.fleet.listed job.0 []) source.0 [] ≡ source.1 =
    ap (λ (xs : List (List ℕ)). get_or xs source.0 []) (get_or_default m.fleet.listed job.0 [] job.1 job.2 ∙ job.3) ∙ get_or_default job.1 source.0 [] source.1 source.2 ∙ source.3 in
    let own = in_all (λ (n : ℕ). is_of m.fleet.known job.0 n ≡ true) source.1 target (subst (λ (xs : List ℕ). All (λ (n : ℕ). is_of m.fleet.known job.0 n ≡ true) xs) lists (kept.orderly.own job.0 source.0)) source.4 in
    some_by (slice_get m.fleet.known target) job.0 own
  where
    some_by : (o : Option KnownTarget) (job : ℕ) → option_map_or (λ (k : KnownTarget). eqb k.job job) o false ≡ true → (k : KnownTarget) × (o ≡ Some k)
    some_by None job e = cc
    some_by (Some k) job e = (k, refl)

-- the live collectors are those that have a place
place_some : (p : Collector → Bool) (i : ℕ) (cs : List Collector) → is_some (position_from p i cs) ≡ list_any p cs
place_some p i [] = refl
place_some p i (c ∷ cs) = place_by i (p c) (position_from p (i + 1) cs) (list_any p cs) (place_some p (i + 1) cs)
  where
    place_by : (i : ℕ) (b : Bool) (o : Option ℕ) (some : Bool) → is_some o ≡ some → is_some (cond b (Some i) o) ≡ (b || some)
    place_by i true o some e = refl
    place_by i false o some e = e

-- a live target has a bin before where a live collector stands beside it
bin_some : (m : Moment) (target : ℕ) (k : KnownTarget) → slice_get m.fleet.known target ≡ Some k → is_some (bin_before m.fleet m.before target) ≡ option_map_or (is_joined m.fleet) (beside m.before target) false
bin_some m target k known = at (beside m.before target)
  where
    map_some : (o : Option ℕ) (jobs home : ℕ) → is_some (option_map (λ (place : ℕ). place * jobs + home) o) ≡ is_some o
    map_some None jobs home = refl
    map_some (Some x) jobs home = refl

    at : (o : Option ℕ) → is_some (option_and_then (bin_in (length m.fleet.jobs) m.fleet.collectors m.fleet.known target) o) ≡ option_map_or (is_joined m.fleet) o false
    at None = refl
    at (Some id) =
        ap (λ (x : Option KnownTarget). is_some (option_and_then (λ (y : KnownTarget). option_map (λ (place : ℕ). place * length m.fleet.jobs + y.job) (place_of m.fleet.collectors id)) x)) known
        ∙ map_some (place_of m.fleet.collectors id) (length m.fleet.jobs) k.job
        ∙ place_some (λ (c : Collector). eqb c.id id) 0 m.fleet.collectors

-- one pair more holds one target more, where that is live
held_by_pair : (c f rest : Bool) → (c ≡ true → rest ≡ false) → (let r : ℕ = cond (cond c f rest) 1 0 in r) ≡ cond (c && f) 1 0 + cond rest 1 0
held_by_pair true f rest h = omega (arith, ap (λ (b : Bool). (let r : ℕ = cond b 1 0 in r)) (h refl))
held_by_pair false f rest h = omega arith

beside_by : (c : Bool) (x : ℕ) (o : Option ℕ) (f : ℕ → Bool) → option_map_or f (cond c (Some x) o) false ≡ cond c (f x) (option_map_or f o false)
beside_by true x o f = refl
beside_by false x o f = refl

count_where : (number : ℕ) (f : Bool) (live : List ℕ) → count_by (λ (t : ℕ). eqb number t && f) live ≡ cond f (count_by (λ (t : ℕ). eqb t number) live) 0
count_where number false live = count_same (λ (t : ℕ). eqb number t && false) (λ (t : ℕ). false) live (λ k d l. and_false (eqb number (get_or live k d))) ∙ count_none live
  where
    and_false : (b : Bool) → (b && false) ≡ false
    and_false true = refl
    and_false false = refl
count_where number true live = count_same (λ (t : ℕ). eqb number t && true) (λ (t : ℕ). eqb t number) live (λ k d l. and_true (eqb number (get_or live k d)) ∙ eqb_turned number (get_or live k d))
  where
    and_true : (b : Bool) → (b && true) ≡ b
    and_true true = refl
    and_true false = refl

both_cond : (a b : Bool) (n : ℕ) → n ≡ cond a 1 0 → (let r : ℕ = cond b n 0 in r) ≡ cond (a && b) 1 0
both_cond true true n e = e
both_cond true false n e = refl
both_cond false true n e = e
both_cond false false n e = refl

-- counting over live targets what stands beside them is counting the pairs of live targets
held_count :
    (live : List ℕ) (p f : ℕ → Bool) (xs : List (ℕ × ℕ)) → ((t : ℕ) → count_by (λ (x : ℕ). eqb x t) live ≡ cond (p t) 1 0) → ((t : ℕ) → count_by (λ (q : ℕ × ℕ). eqb q.0 t) xs ≤ 1)
    → count_by (λ (t : ℕ). option_map_or f (beside xs t) false) live ≡ count_by (λ (q : ℕ × ℕ). p q.0 && f q.1) xs
held_count live p f [] each once = count_none live
held_count live p f (x ∷ xs) each once =
    let uses = λ (t : ℕ). sum_by-cons (λ (r : ℕ × ℕ). cond (eqb r.0 t) 1 0) x xs in
    let alone : beside xs x.0 ≡ None = beside_none xs x.0 (omega (arith, once x.0, uses x.0, ap (λ (b : Bool). (let r : ℕ = cond b 1 0 in r)) (eq-eqb x.0 x.0 refl))) in
    let rest = held_count live p f xs each (λ t. omega (arith, once t, uses t)) in
    let split = sum_by-same (λ (t : ℕ). cond (option_map_or f (beside (x ∷ xs) t) false) 1 0) (λ (t : ℕ). cond (eqb x.0 t && f x.1) 1 0 + cond (option_map_or f (beside xs t) false) 1 0) live
    (λ k d l.
    let t : ℕ = get_or live k d in
    ap (λ (b : Bool). (let r : ℕ = cond b 1 0 in r)) (beside_by (eqb x.0 t) x.1 (beside xs t) f)
    ∙ held_by_pair (eqb x.0 t) (f x.1) (option_map_or f (beside xs t) false) (λ e. ap (λ (n : ℕ). option_map_or f (beside xs n) false) (sym (eqb-true x.0 t e)) ∙ ap (λ (o : Option ℕ). option_map_or f o false) alone)) in
    let added = sum_by-add (λ (t : ℕ). cond (eqb x.0 t && f x.1) 1 0) (λ (t : ℕ). cond (option_map_or f (beside xs t) false) 1 0) live in
    let first = count_where x.0 (f x.1) live ∙ both_cond (p x.0) (f x.1) (count_by (λ (t : ℕ). eqb t x.0) live) (each x.0) in
    omega (arith, rest, split, added, first, sum_by-cons (λ (q : ℕ × ℕ). cond (p q.0 && f q.1) 1 0) x xs)

-- a number is chosen once where it passes, and below the bound
contains_one : (xs : List ℕ) (n : ℕ) → Contains xs n → 1 ≤ count_by (λ (x : ℕ). eqb x n) xs
contains_one [] n (i, l, at) = absurd (omega arith)
contains_one (x ∷ xs) n (zero, l, at) = omega (arith, sum_by-cons (λ (y : ℕ). cond (eqb y n) 1 0) x xs, ap (λ (b : Bool). (let r : ℕ = cond b 1 0 in r)) (eq-eqb x n at))
contains_one (x ∷ xs) n (suc i, l, at) = omega (arith, sum_by-cons (λ (y : ℕ). cond (eqb y n) 1 0) x xs, contains_one xs n (i, omega arith, at))

live_once_by : (m : Moment) (target : ℕ) (b : Bool) → IsFleet m.fleet → is_live m.fleet target ≡ b → count_by (λ (x : ℕ). eqb x target) (live_of m.fleet) ≡ cond b 1 0
live_once_by m target true kept e =
    let k = live_known m target kept e in
    let has = chosen_has (is_live m.fleet) (length m.fleet.known) target (slice_get_within m.fleet.known target k.0 k.1) e in
    omega (arith, contains_one (live_of m.fleet) target has, (chosen_once (is_live m.fleet) (length m.fleet.known) target).1)
live_once_by m target false kept e =
    count_same (λ (x : ℕ). eqb x target) (λ (x : ℕ). false) (live_of m.fleet) (λ k d l.
    ne_eqb (get_or (live_of m.fleet) k d) target (λ s. let r : true ≡ false = sym (chosen_pass (is_live m.fleet) (length m.fleet.known) k d l) ∙ ap (is_live m.fleet) s ∙ e in cc))
    ∙ count_none (live_of m.fleet)

-- the pairs before of the instance are those that can be kept
pub before_can : (m : Moment) → IsFleet m.fleet → ((t : ℕ) → count_by (λ (q : ℕ × ℕ). eqb q.0 t) m.before ≤ 1) → before_count (instance_of m.fleet m.before) ≡ count_by (can_keep m) m.before
unfolding instance_of
before_can m kept once =
    sum_by-map (λ (o : Option ℕ). cond (is_some o) 1 0) (bin_before m.fleet m.before) (live_of m.fleet)
    ∙ count_same (λ (t : ℕ). is_some (bin_before m.fleet m.before t)) (λ (t : ℕ). option_map_or (is_joined m.fleet) (beside m.before t) false) (live_of m.fleet)
    (λ k d l. let known = live_known m (get_or (live_of m.fleet) k d) kept (chosen_pass (is_live m.fleet) (length m.fleet.known) k d l) in bin_some m (get_or (live_of m.fleet) k d) known.0 known.1)
    ∙ held_count (live_of m.fleet) (is_live m.fleet) (is_joined m.fleet) m.before (λ t. live_once_by m t (is_live m.fleet t) kept refl) once
