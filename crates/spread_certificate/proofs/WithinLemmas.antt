-- What is feasible within caps, and where nothing was before; and the laws of both.
use Rattle.std.proofs.Common.{◌≡◌, ◌*◌, ◌-◌, ◌<◌, ◌≤◌, ◌≢◌, ℕ, zero, suc, cond, eqb, Bool, true, false, List, [], ◌∷◌, All, Option, None, inl, inr, length, get_or, map, refl, sym, ap, ◌∙◌, subst, arith}
use Rattle.std.specs.Prelude.{filter, nat_lt, is_some, Contains}
use Rattle.std.proofs.Math.ListN.{get_or-map}
use Rattle.std.proofs.lemmas.List.{get_or_past, length-map}
use Rattle.std.proofs.lemmas.List.Elements.{All-head, All-tail, All-contains, All-contains_itself, All-filter, filter_passes}
use Rattle.std.proofs.lemmas.List.Folds.{sum_by-replicate}
use Rattle.std.proofs.lemmas.List.Sums.{sum_by-cons, get_or-le-sum_by}
use Rattle.std.proofs.lemmas.Bool.{cases_lt, eq-eqb, ltb-true, lt-ltb}
use Rattle.std.proofs.lemmas.Bool.Decides.{nat_tests}
use Rattle.price_certificate.specs.Problem.{Problem, IsProblem, IsAllowed, items_of, bins_of, row_of, capacity_by, is_bin, was_in, before_count, cover_worth, steady_worth}
use Rattle.price_certificate.specs.Assignment.{IsFeasible, IsOptimal, left, kept, uses_of_bin}
use Rattle.price_certificate.specs.Certificate.{IsCertified, worth_of}
use Rattle.price_certificate.specs.Faults.{weight_sum}
use Rattle.price_certificate.specs.Derived.{bare, capped, open_bins}
use Rattle.price_certificate.proofs.DerivedLemmas.{bare_problem, nowhere_at}
use Rattle.price_certificate.proofs.Optimal.{optimal, worth_parts}
use Rattle.price_certificate.proofs.Weights.{capacity-most}
use Rattle.spread_certificate.specs.Within.{AreCaps, IsWithin, IsBestWithin}

-- ---- lists that are filtered

filter_has : (p : ℕ → Bool) (x : ℕ) → p x ≡ true → (xs : List ℕ) (k : ℕ) → k < length xs → get_or xs k x ≡ x → Contains (filter p xs) x
filter_has p x e [] k l at = absurd (omega arith)
filter_has p x e (y ∷ ys) zero l at =
    let passes : p y ≡ true = ap p at ∙ e in
    subst (λ (b : Bool). Contains (cond b (y ∷ filter p ys) (filter p ys)) x) (sym passes) (0, omega arith, at)
filter_has p x e (y ∷ ys) (suc k) l at = later (p y) (filter_has p x e ys k (omega arith) at)
  where
    later : (b : Bool) → Contains (filter p ys) x → Contains (cond b (y ∷ filter p ys) (filter p ys)) x
    later true c = (suc c.0, omega (arith, c.1), c.2)
    later false c = c

filter_from : (p : ℕ → Bool) (x : ℕ) (xs : List ℕ) → Contains (filter p xs) x → Contains xs x
filter_from p x xs a = All-contains (λ (y : ℕ). Contains xs y) (filter p xs) x (All-filter p (λ (y : ℕ). Contains xs y) xs (All-contains_itself xs)) a

filter_test : (p : ℕ → Bool) (x : ℕ) (xs : List ℕ) → Contains (filter p xs) x → p x ≡ true
filter_test p x xs a = All-contains (λ (y : ℕ). p y ≡ true) (filter p xs) x (filter_passes p xs) a

-- ---- what is allowed within caps

row_capped : (caps : List ℕ) (p : Problem) (item : ℕ) → row_of (capped caps p) item ≡ open_bins caps (row_of p item)
unfolding row_of
row_capped caps p item = get_or-map (open_bins caps) p.rows item []

open_test : List ℕ → ℕ → Bool
open_test caps bin = nat_lt 0 (get_or caps bin 0)

allowed_in : (caps : List ℕ) (p : Problem) (item bin : ℕ) → IsAllowed (capped caps p) item bin → IsAllowed p item bin
allowed_in caps p item bin a = filter_from (λ b. nat_lt 0 (get_or caps b 0)) bin (row_of p item) (subst (λ (row : List ℕ). Contains row bin) (row_capped caps p item) a)

allowed_open : (caps : List ℕ) (p : Problem) (item bin : ℕ) → IsAllowed (capped caps p) item bin → 0 < get_or caps bin 0
allowed_open caps p item bin a =
    let passes = filter_test (λ b. nat_lt 0 (get_or caps b 0)) bin (row_of p item) (subst (λ (row : List ℕ). Contains row bin) (row_capped caps p item) a) in
    ltb-true 0 (get_or caps bin 0) passes

allowed_out : (caps : List ℕ) (p : Problem) (item bin : ℕ) → IsAllowed p item bin → 0 < get_or caps bin 0 → IsAllowed (capped caps p) item bin
allowed_out caps p item bin a l =
    subst (λ (row : List ℕ). Contains row bin) (sym (row_capped caps p item)) (filter_has (λ b. nat_lt 0 (get_or caps b 0)) bin (lt-ltb 0 (get_or caps bin 0) l) (row_of p item) a.0 a.1 a.2)

-- ---- how many items a bin has

cap_uses : (items cap uses : ℕ) → uses ≤ capacity_by items cap → (cap ≡ 0 → uses ≡ 0) → uses ≤ cap
unfolding capacity_by
cap_uses items zero uses h none = omega (arith, none refl)
cap_uses items (suc cap) uses h none = grind (arith, nat_tests, h)

cap_room : (items cap uses : ℕ) → uses ≤ cap → uses ≤ items → uses ≤ capacity_by items cap
unfolding capacity_by
cap_room items cap uses h few = grind (arith, nat_tests)

pub no_uses : (caps : List ℕ) (pairs : List (ℕ × ℕ)) (bin : ℕ) → All (λ (q : ℕ × ℕ). 0 < get_or caps q.1 0) pairs → get_or caps bin 0 ≡ 0 → uses_of_bin pairs bin ≡ 0
no_uses caps [] bin h z = refl
no_uses caps (q ∷ pairs) bin h z =
    let head : 0 < get_or caps q.1 0 = All-head (λ (r : ℕ × ℕ). 0 < get_or caps r.1 0) q pairs h in
    let rest = no_uses caps pairs bin (All-tail (λ (r : ℕ × ℕ). 0 < get_or caps r.1 0) q pairs h) z in
    let step = sum_by-cons (λ (r : ℕ × ℕ). cond (eqb r.1 bin) 1 0) q pairs in
    let other : q.1 ≢ bin = λ e. (let same = ap (λ (k : ℕ). get_or caps k 0) e in omega arith) in
    grind (arith, nat_tests, rest, step, other)

-- each pair's bin has an item
pub has_uses : (pairs : List (ℕ × ℕ)) → All (λ (q : ℕ × ℕ). 0 < uses_of_bin pairs q.1) pairs
has_uses pairs = λ k d l.
    let bin = (get_or pairs k d).1 in
    let one = ap (λ (b : Bool). (let n : ℕ = cond b 1 0 in n)) (eq-eqb bin bin refl) in
    omega (arith, one, get_or-le-sum_by (λ (r : ℕ × ℕ). (let n : ℕ = cond (eqb r.1 bin) 1 0 in n)) pairs k d l)

-- ---- what is feasible

pub to_capped : (caps : List ℕ) (p : Problem) (pairs : List (ℕ × ℕ)) → IsFeasible p pairs → IsWithin caps pairs → IsFeasible (capped caps p) pairs
to_capped caps p pairs h within = record {
  allowed = λ k d l. allowed_out caps p (get_or pairs k d).0 (get_or pairs k d).1 (h.allowed k d l) (omega (arith, has_uses pairs k d l, within (get_or pairs k d).1));
  once = h.once;
  within = λ bin. cap_room (length (map (open_bins caps) p.rows)) (get_or caps bin 0) (uses_of_bin pairs bin) (within bin) (omega (arith, h.within bin, capacity-most p bin, length-map p.rows (open_bins caps)));
}

pub capped_within : (caps : List ℕ) (p : Problem) (pairs : List (ℕ × ℕ)) → IsFeasible (capped caps p) pairs → IsWithin caps pairs
capped_within caps p pairs h = λ bin.
    let unlocked : All (λ (q : ℕ × ℕ). 0 < get_or caps q.1 0) pairs = λ k d l. allowed_open caps p (get_or pairs k d).0 (get_or pairs k d).1 (h.allowed k d l) in
    cap_uses (length (map (open_bins caps) p.rows)) (get_or caps bin 0) (uses_of_bin pairs bin) (h.within bin) (λ z. no_uses caps pairs bin unlocked z)

pub from_capped : (caps : List ℕ) (p : Problem) (pairs : List (ℕ × ℕ)) → AreCaps p caps → IsFeasible (capped caps p) pairs → IsFeasible p pairs
from_capped caps p pairs are h =
    let within = capped_within caps p pairs h in
    record {
      allowed = λ k d l. allowed_in caps p (get_or pairs k d).0 (get_or pairs k d).1 (h.allowed k d l);
      once = h.once;
      within = λ bin. elim (cases_lt bin (bins_of p)) [
        | inl l ↦ omega (arith, within bin, are.most bin l)
        | inr g ↦ (let past : get_or caps bin 0 ≡ 0 = get_or_past caps bin 0 (omega (arith, are.bins)) in omega (arith, within bin, past))
      ];
    }

pub to_bare : (p : Problem) (pairs : List (ℕ × ℕ)) → IsFeasible p pairs → IsFeasible (bare p) pairs
unfolding row_of
to_bare p pairs h = record { allowed = h.allowed; once = h.once; within = h.within }

pub from_bare : (p : Problem) (pairs : List (ℕ × ℕ)) → IsFeasible (bare p) pairs → IsFeasible p pairs
unfolding row_of
from_bare p pairs h = record { allowed = h.allowed; once = h.once; within = h.within }

-- ---- nothing is kept or moved where nothing was before

pub none_before : (p : Problem) → before_count (bare p) ≡ 0
none_before p = omega (arith, sum_by-replicate (λ (o : Option ℕ). (let n : ℕ = cond (is_some o) 1 0 in n)) (items_of p) None)

none_kept : (p : Problem) (pairs : List (ℕ × ℕ)) → kept (bare p) pairs ≡ 0
none_kept p [] = refl
none_kept p (q ∷ pairs) =
    let no : was_in (bare p) q.0 q.1 ≡ false = ap (λ (o : Option ℕ). is_bin o q.1) (nowhere_at (items_of p) q.0) in
    let zero = ap (λ (b : Bool). (let n : ℕ = cond b 1 0 in n)) no in
    omega (arith, zero, none_kept p pairs, sum_by-cons (λ (r : ℕ × ℕ). (let n : ℕ = cond (was_in (bare p) r.0 r.1) 1 0 in n)) q pairs)

-- ---- the laws

pub best_is_bare : (p : Problem) (pairs : List (ℕ × ℕ)) → IsOptimal p pairs → IsOptimal (bare p) pairs
best_is_bare p pairs h = record {
  feasible = to_bare p pairs h.feasible;
  covers_most = λ others law. h.covers_most others (from_bare p others law);
  leaves_least = λ others law e. h.leaves_least others (from_bare p others law) e;
  moves_least = λ others law e f. omega (arith, none_before p);
}

pub both_are_best_within : (p : Problem) (caps : List ℕ) (pairs : List (ℕ × ℕ)) → IsProblem p → AreCaps p caps → IsOptimal (bare p) pairs → IsOptimal (capped caps p) pairs → IsBestWithin caps p pairs
both_are_best_within p caps pairs valid are free within = record {
  feasible = from_bare p pairs free.feasible;
  within = capped_within caps p pairs within.feasible;
  covers_most = λ others law. free.covers_most others (to_bare p others law);
  leaves_least = λ others law e. free.leaves_least others (to_bare p others law) e;
  moves_least = λ others law inside e f. within.moves_least others (to_capped caps p others law inside) e f;
}

pub caps_cost_nothing : (p : Problem) (caps : List ℕ) (witness pairs : List (ℕ × ℕ)) → IsProblem p → AreCaps p caps → IsOptimal (bare p) witness → IsWithin caps witness → IsOptimal (capped caps p) pairs → IsOptimal (bare p) pairs
caps_cost_nothing p caps witness pairs valid are free inside within =
    let fits = to_capped caps p witness (from_bare p witness free.feasible) inside in
    let feasible = to_bare p pairs (from_capped caps p pairs are within.feasible) in
    let no_more : length pairs ≤ length witness = free.covers_most pairs feasible in
    let no_less : length witness ≤ length pairs = within.covers_most witness fits in
    let as_many : length witness ≡ length pairs = omega arith in
    record {
      feasible = feasible;
      covers_most = λ others law. omega (arith, free.covers_most others law);
      leaves_least = λ others law e.
          let same : length others ≡ length witness = omega arith in
          omega (arith, within.leaves_least witness fits as_many, free.leaves_least others law same);
      moves_least = λ others law e f. omega (arith, none_before p);
    }

pub prices_carry_over : (p : Problem) (witness pairs : List (ℕ × ℕ)) (us vs : List ℕ) → IsProblem p → IsCertified (bare p) witness us vs → IsOptimal (bare p) pairs → IsCertified (bare p) pairs us vs
prices_carry_over p witness pairs us vs valid h best =
    let first = optimal (bare p) witness us vs (bare_problem p valid) h in
    let as_many : length pairs ≡ length witness = omega (arith, first.covers_most pairs best.feasible, best.covers_most witness h.feasible) in
    let as_left : left (bare p) pairs ≡ left (bare p) witness = omega (arith, first.leaves_least pairs best.feasible as_many, best.leaves_least witness h.feasible (sym as_many)) in
    let keeps : kept (bare p) pairs ≡ kept (bare p) witness = none_kept p pairs ∙ sym (none_kept p witness) in
    let version = p.version in
    let cover = ap (λ (n : ℕ). cover_worth version (items_of p) * n) as_many in
    let steady_count : length pairs - left (bare p) pairs ≡ length witness - left (bare p) witness = omega arith in
    let steady = ap (λ (n : ℕ). steady_worth version (items_of p) * n) steady_count in
    let same : weight_sum (bare p) witness ≡ weight_sum (bare p) pairs = omega (arith, cover, steady, keeps) in
    let worth : worth_of (bare p) witness ≡ worth_of (bare p) pairs = worth_parts (bare p) witness ∙ same ∙ sym (worth_parts (bare p) pairs) in
    record { feasible = best.feasible; priced = h.priced; sums = h.sums ∙ worth }
