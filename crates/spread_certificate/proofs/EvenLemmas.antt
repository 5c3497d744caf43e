-- What levels without a fault show.
use Rattle.std.proofs.Common.{◌≡◌, ◌+◌, ◌*◌, ◌<◌, ◌≤◌, ◌⊎◌, ◌&&◌, ◌||◌, ℕ, zero, suc, cond, eqb, Bool, true, false, List, Option, Some, None, inl, inr, length, get_or, refl, sym, ap, ◌∙◌, subst, arith}
use Rattle.std.specs.Prelude.{not}
use Rattle.std.specs.Option.{option_map}
use Rattle.std.proofs.Math.Nat.{div-lt_iff_lt-mul, mul-div_left, mul-mod_left}
use Rattle.std.proofs.lemmas.Grind.{div_ceil_times}
use Rattle.std.proofs.lemmas.List.{get_or_default}
use Rattle.std.proofs.lemmas.List.Elements.{All-weaker}
use Rattle.std.proofs.lemmas.Bool.{cases_eq, eqb-true, leb-true}
use Rattle.price_certificate.specs.Problem.{Problem, IsProblem, IsAllowed, items_of, bins_of, row_of}
use Rattle.price_certificate.specs.Assignment.{IsFeasible, covered, left, uses_of_bin}
use Rattle.price_certificate.specs.Certificate.{sum_below}
use Rattle.price_certificate.specs.Faults.{bin_at, fault_of}
use Rattle.price_certificate.specs.Derived.{bare}
use Rattle.price_certificate.proofs.DerivedLemmas.{bare_problem}
use Rattle.price_certificate.proofs.Duality.{allowed_item}
use Rattle.price_certificate.proofs.First.{none_below, or_else_none}
use Rattle.price_certificate.proofs.InstanceRows.{allowed_bin}
use Rattle.price_certificate.proofs.Sums.{sum_below-le, sum_below-same, sum_by_key}
use Rattle.price_certificate.proofs.Verdicts.{fault_none}
use Rattle.spread_certificate.specs.Within.{IsWithin}
use Rattle.spread_certificate.specs.Loads.{group_of, squares_of, IsLevelled, IsEvenest}
use Rattle.spread_certificate.specs.Even.{owner_of, owners_of, load_in, caps_of, with_slack, IsEvenWithin}
use Rattle.spread_certificate.specs.EvenFaults.{even_unless, are_lengths, shape_fault, witness_of, witness_pairs, count_fault, other_fault, witness_fault, level_fault_at, level_fault, level_worth, price_fault_at, row_fault, price_fault, value_in, worth_in, sum_fault, is_at_level, load_fault_at, load_fault, room_fault_at, room_fault, levels_fault, even_fault}
use Rattle.spread_certificate.specs.declared.even.Even.{Even}
use Rattle.spread_certificate.specs.declared.spread.Spread.{Spread}
use Rattle.spread_certificate.specs.declared.verdict.EvenFault.{EvenFault}
use Rattle.spread_certificate.specs.declared.verdict.EvenFault.TheVariants.{NoJobs, WrongLengths, CoversOther, LeavesOther, Witness, LevelTooHigh, PriceTooLow, SumsDiffer, OffLevel, CapsTooHigh}
use Rattle.spread_certificate.proofs.Evenest.{owned_in, by_group, ones, levelled_is_evenest}
use Rattle.spread_certificate.proofs.WithinLemmas.{from_bare}

-- ---- tests

pub even_none : (b : Bool) (fault : EvenFault) → even_unless b fault ≡ None → b ≡ true
even_none true fault e = refl
even_none false fault e = cc

both_true : (a b : Bool) → (a && b) ≡ true → (a ≡ true) × (b ≡ true)
both_true true b e = (refl, e)
both_true false b e = cc

either_true : (a b : Bool) → (a || b) ≡ true → (a ≡ true) ⊎ (b ≡ true)
either_true true b e = inl refl
either_true false b e = inr e

not_zero : (n : ℕ) → not (eqb n 0) ≡ true → 0 < n
not_zero zero e = cc
not_zero (suc n) e = omega arith

pub no_fault : {A B : Type 0} (f : A → B) (o : Option A) → option_map f o ≡ None → o ≡ None
no_fault f None e = refl
no_fault f (Some fault) e = cc

-- ---- owners

pub owner_in : (p : Problem) (jobs bin : ℕ) → 0 < jobs → bin < bins_of p → owner_of jobs bin < owners_of p jobs
owner_in p jobs bin pos l = (div-lt_iff_lt-mul pos).1 (omega (arith, l, (div_ceil_times (bins_of p) jobs pos).0))

-- ---- each kind of fault

pub jobs_fine : (p : Problem) (even : Even) → shape_fault p even ≡ None → 0 < even.jobs
unfolding shape_fault
jobs_fine p even e = not_zero even.jobs (even_none (not (eqb even.jobs 0)) NoJobs (or_else_none _ _ e).0)

pub lengths_fine : (p : Problem) (even : Even) → shape_fault p even ≡ None → (length even.levels ≡ owners_of p even.jobs) × (length even.item_prices ≡ items_of p) × (length even.bin_prices ≡ bins_of p)
unfolding shape_fault
lengths_fine p even e =
    let last = (or_else_none _ _ (or_else_none _ _ e).1).1 in
    let a = both_true (eqb (length even.levels) (owners_of p even.jobs)) _ (even_none (are_lengths p even) WrongLengths last) in
    let b = both_true (eqb (length even.item_prices) (items_of p)) (eqb (length even.bin_prices) (bins_of p)) a.1 in
    (eqb-true _ _ a.0, eqb-true _ _ b.0, eqb-true _ _ b.1)

-- the witness is feasible, and covers and leaves as many as the plan
pub record IsWitness (p : Problem) (witness pairs : List (ℕ × ℕ)) : Type 0 where
  pub feasible : IsFeasible p witness
  pub covers : covered witness ≡ covered pairs
  pub leaves : left p witness ≡ left p pairs

other_fine : (p : Problem) (spread : Spread) (other : Option (List (ℕ × ℕ))) → IsProblem p → IsFeasible p spread.plan.pairs → other_fault p spread other ≡ None → IsWitness p (witness_pairs spread other) spread.plan.pairs
other_fine p spread None valid h e = record { feasible = h; covers = refl; leaves = refl }
other_fine p spread (Some pairs) valid h e =
    let parts = or_else_none (count_fault p pairs spread.plan.pairs) _ e in
    let counts = or_else_none (even_unless (eqb (covered pairs) (covered spread.plan.pairs)) (CoversOther (covered pairs) (covered spread.plan.pairs))) _ parts.0 in
    let none : fault_of (bare p) pairs spread.free_item_prices spread.free_bin_prices ≡ None = no_fault Witness _ parts.1 in
    record {
      feasible = from_bare p pairs (fault_none (bare p) pairs spread.free_item_prices spread.free_bin_prices (bare_problem p valid) none).feasible;
      covers = eqb-true _ _ (even_none _ (CoversOther (covered pairs) (covered spread.plan.pairs)) counts.0);
      leaves = eqb-true _ _ (even_none _ (LeavesOther (left p pairs) (left p spread.plan.pairs)) counts.1);
    }

pub witness_fine : (p : Problem) (spread : Spread) (even : Even) → IsProblem p → IsFeasible p spread.plan.pairs → witness_fault p spread even ≡ None → IsWitness p (witness_of spread even) spread.plan.pairs
unfolding witness_fault
witness_fine p spread even valid h e = other_fine p spread even.witness valid h e

low_fine : (p : Problem) (even : Even) → level_fault p even ≡ None → (c : ℕ) → c < owners_of p even.jobs → get_or even.levels c 0 ≤ even.keep
unfolding level_fault
low_fine p even e c l = leb-true _ _ (even_none _ (LevelTooHigh c) (none_below (level_fault_at even) (owners_of p even.jobs) e c l))

prices_fine : (p : Problem) (even : Even) → price_fault p even ≡ None → (item bin : ℕ) → IsAllowed p item bin → level_worth p even item bin ≤ get_or even.item_prices item 0 + get_or even.bin_prices bin 0
unfolding price_fault row_fault
prices_fine p even e item bin a =
    let row = none_below (row_fault p even) (items_of p) e item (allowed_item p item bin a) in
    let place = a.0 in
    let read : bin_at p item place ≡ bin = get_or_default (row_of p item) place 0 bin a.1 ∙ a.2 in
    let fine = leb-true _ _ (even_none _ (PriceTooLow item (bin_at p item place)) (none_below (price_fault_at p even item) (length (row_of p item)) row place a.1)) in
    subst (λ (b : ℕ). level_worth p even item b ≤ get_or even.item_prices item 0 + get_or even.bin_prices b 0) read fine

sums_fine : (p : Problem) (even : Even) (pairs : List (ℕ × ℕ)) → sum_fault p even pairs ≡ None → value_in p even ≡ worth_in p even pairs
unfolding sum_fault
sums_fine p even pairs e = eqb-true _ _ (even_none _ (SumsDiffer (value_in p even) (worth_in p even pairs)) e)

at_level : (load level : ℕ) → is_at_level load level ≡ true → (load ≡ level) ⊎ (load ≡ level + 1)
at_level load level e = elim (either_true (eqb load level) (eqb load (level + 1)) e) [
  | inl a ↦ inl (eqb-true load level a)
  | inr b ↦ inr (eqb-true load (level + 1) b)
]

loads_fine : (p : Problem) (even : Even) (pairs : List (ℕ × ℕ)) → load_fault p even pairs ≡ None → (c : ℕ) → c < owners_of p even.jobs → (load_in p even.jobs pairs c ≡ get_or even.levels c 0) ⊎ (load_in p even.jobs pairs c ≡ get_or even.levels c 0 + 1)
unfolding load_fault
loads_fine p even pairs e c l = at_level (load_in p even.jobs pairs c) (get_or even.levels c 0) (even_none _ (OffLevel c) (none_below (load_fault_at p even pairs) (owners_of p even.jobs) e c l))

rooms_fine : (p : Problem) (caps : List ℕ) (even : Even) (pairs : List (ℕ × ℕ)) → room_fault p even caps pairs ≡ None → (c : ℕ) → c < owners_of p even.jobs → caps_of p even.jobs caps c ≤ with_slack even.slack (load_in p even.jobs pairs c)
unfolding room_fault
rooms_fine p caps even pairs e c l = leb-true _ _ (even_none _ (CapsTooHigh c) (none_below (room_fault_at p even caps pairs) (owners_of p even.jobs) e c l))

-- ---- within caps no collector has more than its caps

one_share : (b : Bool) (uses cap : ℕ) → uses ≤ cap → cond b 1 0 * uses ≤ cond b cap 0
one_share true uses cap h = omega (arith, h)
one_share false uses cap h = omega arith

pub within_caps : (p : Problem) (jobs : ℕ) (caps : List ℕ) (pairs : List (ℕ × ℕ)) → IsProblem p → IsFeasible p pairs → IsWithin caps pairs → (c : ℕ) → load_in p jobs pairs c ≤ caps_of p jobs caps c
within_caps p jobs caps pairs valid h within c =
    let mine = λ (bin : ℕ). (let b : Bool = eqb (group_of p (owner_of jobs) (owners_of p jobs) bin) c in b) in
    let one = λ (bin : ℕ). (let n : ℕ = cond (mine bin) 1 0 in n) in
    let inside = All-weaker (λ (q : ℕ × ℕ). IsAllowed p q.0 q.1) (λ (q : ℕ × ℕ). q.1 < bins_of p) (λ q a. allowed_bin p valid q.0 q.1 a) pairs h.allowed in
    let all : load_in p jobs pairs c ≡ sum_below (λ bin. one bin * uses_of_bin pairs bin) (bins_of p) = sum_by_key (λ (q : ℕ × ℕ). q.1) one (bins_of p) pairs inside in
    let most : sum_below (λ bin. one bin * uses_of_bin pairs bin) (bins_of p) ≤ caps_of p jobs caps c = sum_below-le (λ bin. one bin * uses_of_bin pairs bin) (λ bin. cond (mine bin) (get_or caps bin 0) 0) (bins_of p) (λ bin l. one_share (mine bin) (uses_of_bin pairs bin) (get_or caps bin 0) (within bin)) in
    omega (arith, all, most)

-- ---- all together

levelled : (p : Problem) (spread : Spread) (even : Even) (pairs : List (ℕ × ℕ)) → IsFeasible p pairs → shape_fault p even ≡ None → levels_fault p spread.caps even pairs ≡ None → IsLevelled p (owner_of even.jobs) (owners_of p even.jobs) even.levels even.keep pairs even.item_prices even.bin_prices
unfolding levels_fault
levelled p spread even pairs h shape e =
    let a = or_else_none (level_fault p even) _ e in
    let b = or_else_none (price_fault p even) _ a.1 in
    let c = or_else_none (sum_fault p even pairs) _ b.1 in
    let d = or_else_none (load_fault p even pairs) _ c.1 in
    let lengths = lengths_fine p even shape in
    record {
      feasible = h;
      owned = λ bin l. owner_in p even.jobs bin (jobs_fine p even shape) l;
      low = low_fine p even a.0;
      priced = record { items = lengths.1; bins = lengths.2; pairs = prices_fine p even b.0 };
      sums = sums_fine p even pairs c.0;
      loads = loads_fine p even pairs d.0;
    }

rooms_in : (p : Problem) (caps : List ℕ) (even : Even) (pairs : List (ℕ × ℕ)) → levels_fault p caps even pairs ≡ None → room_fault p even caps pairs ≡ None
unfolding levels_fault
rooms_in p caps even pairs e =
    let a = or_else_none (level_fault p even) _ e in
    let b = or_else_none (price_fault p even) _ a.1 in
    let c = or_else_none (sum_fault p even pairs) _ b.1 in
    (or_else_none (load_fault p even pairs) _ c.1).1

pub even_fine : (p : Problem) (spread : Spread) (even : Even) → IsProblem p → IsFeasible p spread.plan.pairs → IsWithin spread.caps spread.plan.pairs → even_fault p spread even ≡ None → IsEvenWithin p even.jobs even.slack (witness_of spread even) spread.plan.pairs
unfolding even_fault
even_fine p spread even valid h within e =
    let a = or_else_none (shape_fault p even) _ e in
    let b = or_else_none (witness_fault p spread even) _ a.1 in
    let pairs = witness_of spread even in
    let witness = witness_fine p spread even valid h b.0 in
    record {
      covers = witness.covers;
      leaves = witness.leaves;
      evenest = levelled_is_evenest p (owner_of even.jobs) (owners_of p even.jobs) even.levels even.keep pairs even.item_prices even.bin_prices valid (levelled p spread even pairs witness.feasible a.0 b.1);
      loads = λ c l. omega (arith, within_caps p even.jobs spread.caps spread.plan.pairs valid h within c, rooms_fine p spread.caps even pairs (rooms_in p spread.caps even pairs b.1) c l);
    }

pub even_jobs : (p : Problem) (spread : Spread) (even : Even) → even_fault p spread even ≡ None → 0 < even.jobs
unfolding even_fault
even_jobs p spread even e = jobs_fine p even (or_else_none (shape_fault p even) _ e).0

-- ---- no slack

no_more : (load : ℕ) → with_slack 0 load ≡ load
no_more load =
    let whole = mul-div_left load {n = 100} (omega arith) in
    let none = mul-mod_left load 100 in
    omega (arith, whole, none)

-- what is nowhere more and in all as much is everywhere as much
as_much : (f g : ℕ → ℕ) (n : ℕ) → ((k : ℕ) → k < n → f k ≤ g k) → sum_below f n ≡ sum_below g n → (k : ℕ) → k < n → f k ≡ g k
as_much f g zero h e k l = absurd (omega arith)
as_much f g (suc n) h e k l =
    let less = sum_below-le f g n (λ j m. h j (omega arith)) in
    let last = h n (omega arith) in
    let rest : sum_below f n ≡ sum_below g n = omega arith in
    elim (cases_eq k n) [
      | inl s ↦ subst (λ (j : ℕ). f j ≡ g j) (sym s) (let r : f n ≡ g n = omega arith in r)
      | inr d ↦ as_much f g n (λ j m. h j (omega arith)) rest k (omega arith)
    ]

pub no_slack_is_evenest : (p : Problem) (jobs : ℕ) (witness pairs : List (ℕ × ℕ)) → IsProblem p → 0 < jobs → IsFeasible p pairs → IsEvenWithin p jobs 0 witness pairs → IsEvenest p (owner_of jobs) (owners_of p jobs) pairs
no_slack_is_evenest p jobs witness pairs valid pos h even =
    let owner = owner_of jobs in
    let owners = owners_of p jobs in
    let owned = λ (bin : ℕ) (l : bin < bins_of p). owner_in p jobs bin pos l in
    let mine = λ (c : ℕ). load_in p jobs pairs c in
    let theirs = λ (c : ℕ). load_in p jobs witness c in
    let count_mine = by_group p owner owners (λ c. (let n : ℕ = 1 in n)) pairs (owned_in p owner owners pairs valid owned h) in
    let count_theirs = by_group p owner owners (λ c. (let n : ℕ = 1 in n)) witness (owned_in p owner owners witness valid owned even.evenest.feasible) in
    let once_mine = sum_below-same (λ c. 1 * mine c) mine owners (λ c l. omega arith) in
    let once_theirs = sum_below-same (λ c. 1 * theirs c) theirs owners (λ c l. omega arith) in
    let totals : sum_below mine owners ≡ sum_below theirs owners = omega (arith, count_mine, count_theirs, once_mine, once_theirs, ones pairs, ones witness, even.covers, even.leaves) in
    let each = as_much mine theirs owners (λ c l. omega (arith, even.loads c l, no_more (theirs c))) totals in
    let squares : squares_of p owner owners pairs ≡ squares_of p owner owners witness = sum_below-same (λ c. mine c * mine c) (λ c. theirs c * theirs c) owners (λ c l. ap (λ (n : ℕ). n * n) (each c l)) in
    record {
      feasible = h;
      even = λ others law as_many as_left. omega (arith, squares, even.evenest.even others law (as_many ∙ sym even.covers) (as_left ∙ sym even.leaves));
    }
