-- The matching that the engine starts from.
use Rattle.std.proofs.Common.{◌≡◌, ◌+◌, ◌*◌, ◌<◌, ◌≤◌, ◌≢◌, eqb, cond, true, false, not, Bool, ℕ, List, Option, Some, None, inl, inr, length, get_or, set, replicate, min, add-one, refl, sym, ap, ◌∙◌, subst, arith}
use Rattle.std.proofs.lemmas.Bool.{cases_eq, cases_lt, lt-ltb, le-ltb}
use Rattle.std.proofs.lemmas.Bool.Decides.{nat_tests}
use Rattle.std.proofs.lemmas.List.{get_or_past, get_or-set_other, get_or-replicate, length-set, length-replicate}
use Rattle.std.proofs.lemmas.List.Sums.{sum_by-set, sum_by_more, count_by_more_yes}
use Rattle.std.proofs.lemmas.Option.{none-some}
use Rattle.price_certificate.specs.Problem.{Problem, IsProblem, items_of, bins_of, capacity_of, top_weight}
use Rattle.assign_engine.specs.Usable.{IsHome, home_of, claims_below, movers_below, is_early, has_usable, one_if}
use Rattle.assign_engine.specs.Seats.{sits, seat, used, IsSound, IsStart, IsWaiting, IsInserting}
use Rattle.assign_engine.specs.Searched.{IsInserted}
use Rattle.std.specs.Option.{is_none, is_some}
use Rattle.assign_engine.proofs.Walking.{seated_item, used-set, seats-set}
use Rattle.assign_engine.proofs.Rolling.{seat_none, used_none, none_none}
use Rattle.price_certificate.proofs.Duality.{allowed_item}
use Rattle.price_certificate.proofs.Weights.{weight-most, weight-before}

below_one : (cap n y x : ℕ) → n < cap → n + cond (eqb y x) 1 0 ≤ cap
below_one cap n y x l = grind (arith, nat_tests)

below_none : (cap n y x : ℕ) → x ≢ y → n ≤ cap → n + cond (eqb y x) 1 0 ≤ cap
below_none cap n y x d l = let e : y ≢ x = λ q. d (sym q) in grind (arith, nat_tests)

below_cap : (cap n y x : ℕ) → n ≤ cap → (x ≡ y → n < cap) → n + cond (eqb y x) 1 0 ≤ cap
below_cap cap n y x l h = elim (cases_eq x y) [ inl e ↦ below_one cap n y x (h e) | inr d ↦ below_none cap n y x d l ]

pub start_none : (p : Problem) (ats : List (Option ℕ)) → ats ≡ replicate (items_of p) None → IsStart p 0 ats
start_none p ats e = subst (IsStart p 0) (sym e) (record {
  seats = length-replicate {A = Option ℕ} (items_of p) None;
  later = λ t l. seat_none (items_of p) t;
  home = λ t b s. absurd (none-some b (sym (seat_none (items_of p) t) ∙ s));
  within = λ b. omega (arith, used_none (items_of p) b);
  claims = λ b. omega (arith, used_none (items_of p) b);
  movers = omega (arith, none_none (items_of p));
})

-- what the item n adds to the claims on b
claims_more : (p : Problem) (n b : ℕ) (h : Option ℕ) → h ≡ home_of p n → claims_below p (n + 1) b ≡ claims_below p n b + one_if (sits b h)
claims_more p n b h e = rw (add-one, e) refl

movers_more : (p : Problem) (n : ℕ) → movers_below p (n + 1) ≡ movers_below p n + one_if (not (has_usable p n))
movers_more p n = rw add-one refl

stays : (p : Problem) (n y : ℕ) → Some y ≡ home_of p n → claims_below p n y < capacity_of p y → has_usable p n ≡ true
unfolding has_usable
stays p n y e l = ap (is_early p n) (sym e) ∙ lt-ltb _ _ l

moves : (p : Problem) (n : ℕ) (h : Option ℕ) → h ≡ home_of p n → ((y : ℕ) → h ≡ Some y → capacity_of p y ≤ claims_below p n y) → has_usable p n ≡ false
unfolding has_usable
moves p n None e f = ap (is_early p n) (sym e)
moves p n (Some y) e f = ap (is_early p n) (sym e) ∙ le-ltb _ _ (f y refl)

skip_here : (cap c b y : ℕ) → cap ≤ c → min c cap ≡ min (c + one_if (eqb y b)) cap
skip_here cap c b y l = elim (eqb y b) as (λ x. min c cap ≡ min (c + one_if x) cap) [ true ↦ omega arith | false ↦ omega arith ]

skip_there : (cap c b y : ℕ) → b ≢ y → min c cap ≡ min (c + one_if (eqb y b)) cap
skip_there cap c b y d = let e : y ≢ b = λ q. d (sym q) in grind (arith, nat_tests)

keep_here : (cap c u b y : ℕ) → u ≡ min c cap → c < cap → u + one_if (eqb y b) ≡ min (c + one_if (eqb y b)) cap
keep_here cap c u b y e l = elim (eqb y b) as (λ x. u + one_if x ≡ min (c + one_if x) cap) [ true ↦ omega arith | false ↦ omega arith ]

keep_there : (cap c u b y : ℕ) → u ≡ min c cap → b ≢ y → u + one_if (eqb y b) ≡ min (c + one_if (eqb y b)) cap
keep_there cap c u b y e d = let n : y ≢ b = λ q. d (sym q) in grind (arith, nat_tests)

keep_claims : (cap c u b y : ℕ) → u ≡ min c cap → (b ≡ y → c < cap) → u + one_if (eqb y b) ≡ min (c + one_if (eqb y b)) cap
keep_claims cap c u b y e h = elim (cases_eq b y) [ inl q ↦ keep_here cap c u b y e (h q) | inr d ↦ keep_there cap c u b y e d ]

skip_claims : (cap c : ℕ) (b : ℕ) (h : Option ℕ) → ((y : ℕ) → h ≡ Some y → b ≡ y → cap ≤ c) → min c cap ≡ min (c + one_if (sits b h)) cap
skip_claims cap c b None f = omega arith
skip_claims cap c b (Some y) f = elim (cases_eq b y) [ inl q ↦ (let l = f y refl q in skip_here cap c b y l) | inr d ↦ skip_there cap c b y d ]

-- the item n has no usable pair
pub start_skip : (p : Problem) (n : ℕ) (ats : List (Option ℕ)) (h : Option ℕ) → IsStart p n ats → h ≡ home_of p n → ((y : ℕ) → h ≡ Some y → capacity_of p y ≤ used ats y) → IsStart p (n + 1) ats
start_skip p n ats h i he full =
    let over = λ (y : ℕ) (k : h ≡ Some y). (let r : capacity_of p y ≤ claims_below p n y = (let f = full y k in let c = i.claims y in omega arith) in r) in
    record {
      seats = i.seats;
      later = λ t l. i.later t (omega arith);
      home = i.home;
      within = i.within;
      claims = λ b. i.claims b ∙ skip_claims (capacity_of p b) (claims_below p n b) b h (λ y k z. subst (λ (m : ℕ). capacity_of p m ≤ claims_below p n m) (sym z) (over y k)) ∙ ap (λ (x : ℕ). min x (capacity_of p b)) (sym (claims_more p n b h he));
      movers = (let m = movers_more p n in let w = ap (λ (x : Bool). one_if (not x)) (moves p n h he over) in omega (arith, i.movers));
    }

-- the item n has a usable pair
pub start_keep : (p : Problem) (n : ℕ) (ats : List (Option ℕ)) (y : ℕ) → IsStart p n ats → n < items_of p → Some y ≡ home_of p n → IsHome p n y → used ats y < capacity_of p y → IsStart p (n + 1) (set ats n (Some y))
start_keep p n ats y i l he home room =
    let under : claims_below p n y < capacity_of p y = (let c = i.claims y in omega arith) in
    let ln : n < length ats = omega (arith, i.seats) in
    let free : seat ats n ≡ None = i.later n (omega arith) in
    let grown = λ (b : ℕ). (let c = used-set ats n b (Some y) ln in let f : ◌≡◌ {A = ℕ} (cond (sits b (seat ats n)) 1 0) 0 = ap (λ (o : Option ℕ). (let m : ℕ = cond (sits b o) 1 0 in m)) free in let r : used (set ats n (Some y)) b ≡ used ats b + cond (sits b (Some y)) 1 0 = omega (arith, c, f) in r) in
    record {
      seats = length-set ats n (Some y) ∙ i.seats;
      later = λ t k. get_or-set_other ats n t (Some y) None (λ q. absurd (omega arith)) ∙ i.later t (omega arith);
      home = seats-set (IsHome p) ats n y ln i.home home;
      within = λ b. (let c = below_cap (capacity_of p b) (used ats b) y b (i.within b) (λ r. subst (λ (m : ℕ). used ats m < capacity_of p m) (sym r) room) in omega (arith, grown b, c));
      claims = λ b. grown b ∙ keep_claims (capacity_of p b) (claims_below p n b) (used ats b) b y (i.claims b) (λ r. subst (λ (m : ℕ). claims_below p n m < capacity_of p m) (sym r) under) ∙ ap (λ (x : ℕ). min x (capacity_of p b)) (sym (claims_more p n b (Some y) he));
      movers =
          (let m = movers_more p n in
          let w = ap (λ (x : Bool). one_if (not x)) (stays p n y he under) in
          let c = sum_by-set (λ (o : Option ℕ). (let k : ℕ = cond (is_none o) 1 0 in k)) ats n (Some y) None ln in
          let f : ◌≡◌ {A = ℕ} (cond (is_none (seat ats n)) 1 0) 1 = ap (λ (o : Option ℕ). (let k : ℕ = cond (is_none o) 1 0 in k)) free in
          omega (arith, i.movers, c, f));
    }

-- at the top price for items and none for bins the start is sound
pub start_sound : (p : Problem) (ats : List (Option ℕ)) (us vs : List ℕ) → IsProblem p → IsStart p (items_of p) ats → us ≡ replicate (items_of p) (top_weight p) → vs ≡ replicate (bins_of p) 0 → IsSound p ats us vs
start_sound p ats us vs valid h ue ve =
    let u_at = λ (t : ℕ) (l : t < items_of p). (let r : get_or us t 0 ≡ top_weight p = ap (λ (m : List ℕ). get_or m t 0) ue ∙ get_or-replicate (items_of p) t (top_weight p) 0 l in r) in
    let v_at = λ (b : ℕ). (let r : get_or vs b 0 ≡ 0 = elim (cases_lt b (bins_of p)) [ inl l ↦ ap (λ (m : List ℕ). get_or m b 0) ve ∙ get_or-replicate (bins_of p) b 0 0 l | inr g ↦ ap (λ (m : List ℕ). get_or m b 0) ve ∙ get_or_past (replicate (bins_of p) 0) b 0 (omega (arith, length-replicate {A = ℕ} (bins_of p) 0)) ] in r) in
    record {
      seats = h.seats;
      items = ap length ue ∙ length-replicate (items_of p) (top_weight p);
      bins = ap length ve ∙ length-replicate (bins_of p) 0;
      priced = λ t b a. omega (arith, u_at t (allowed_item p t b a), weight-most p t b);
      allowed = λ t b e. (h.home t b e).allowed;
      tight = λ t b e. omega (arith, u_at t (omega (arith, seated_item ats t b e, h.seats)), v_at b, weight-before p t b (h.home t b e).before (h.home t b e).steady);
      within = h.within;
      full = λ b l. absurd (omega (arith, v_at b));
    }

module _ (p : Problem) (start : List (Option ℕ)) (n : ℕ) (ats : List (Option ℕ)) (us vs : List ℕ) (searches settled : ℕ) (h : IsInserting p start n ats us vs searches settled) (ls : length start ≡ items_of p) (l : n < items_of p) where
  -- the item n does not wait
  pub inserting_skip : (IsWaiting ats us n → ⊥) → IsInserting p start (n + 1) ats us vs searches settled
  inserting_skip skip = record {
    sound = h.sound;
    waiting = λ t w. elim (cases_eq t n) [ inl q ↦ absurd (skip (subst (IsWaiting ats us) q w)) | inr q ↦ (let k = h.waiting t w in (omega (arith, k.0), k.1)) ];
    search_count = (let m = sum_by_more (λ (o : Option ℕ). (let k : ℕ = cond (is_none o) 1 0 in k)) start n None (omega (arith, ls)) in omega (arith, m, h.search_count));
    settled_count = h.settled_count;
  }

  pub inserting_more : (ats2 : List (Option ℕ)) (lower higher : List ℕ) (more : ℕ) → IsWaiting ats us n → IsInserted p ats us n ats2 lower higher → more ≤ bins_of p → IsInserting p start (n + 1) ats2 lower higher (searches + 1) (settled + more)
  inserting_more ats2 lower higher more w i lm = record {
    sound = i.sound;
    waiting = λ t k. (let j = i.waiting t k in let q = h.waiting t j.0 in (let d = j.1 in omega (arith, q.0), q.1));
    search_count =
        (let m = count_by_more_yes is_none start n None (omega (arith, ls)) (ap is_none (h.waiting n w).1) in
        omega (arith, m, h.search_count));
    settled_count = (let e : (searches + 1) * bins_of p ≡ searches * bins_of p + bins_of p = omega arith in omega (arith, h.settled_count, e));
  }

pub none_of : (o : Option ℕ) (r : Bool) → is_some o ≡ not r → r ≡ true → o ≡ None
none_of None r e h = refl
none_of (Some x) r e h = let k = ap not h in cc

pub some_of : (o : Option ℕ) (r : Bool) → is_some o ≡ not r → r ≡ false → o ≡ None → ⊥
some_of None r e h q = let k = ap not h in cc
some_of (Some x) r e h q = cc
