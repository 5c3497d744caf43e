-- Levels and prices prove an assignment even: weak duality, and that a square is convex.
use Rattle.std.proofs.Common.{◌≡◌, ◌+◌, ◌*◌, ◌-◌, ◌<◌, ◌≤◌, ◌≢◌, ◌⊎◌, ℕ, zero, suc, cond, eqb, Bool, true, false, List, [], ◌∷◌, All, inl, inr, length, get_or, sum_by, refl, sym, ap, subst, arith}
use Rattle.std.proofs.lemmas.List.Sums.{sum_by-cons}
use Rattle.std.proofs.lemmas.Bool.{cases_lt}
use Rattle.std.proofs.lemmas.Bool.Decides.{nat_tests}
use Rattle.std.proofs.lemmas.List.Elements.{All-head, All-tail, All-weaker}
use Rattle.price_certificate.specs.Problem.{Problem, IsProblem, IsAllowed, bins_of, drains}
use Rattle.price_certificate.specs.Assignment.{IsFeasible, left}
use Rattle.price_certificate.specs.Certificate.{sum_below, worth_by}
use Rattle.price_certificate.proofs.Duality.{duality}
use Rattle.price_certificate.proofs.InstanceRows.{allowed_bin}
use Rattle.price_certificate.proofs.Sums.{sum_below-same, sum_below-le, sum_below-add, sum_by_key}
use Rattle.spread_certificate.specs.Loads.{group_of, load_of, worth_at, IsLevelled, IsEvenest}

-- ---- a square lies above its tangents

square_low : (a d : ℕ) → (2 * (a + d) + 1) * a ≤ a * a + (a + d) * (a + d + 1)
square_low a d = omega arith

square_least : (d : ℕ) → d ≤ d * d
square_least zero = omega arith
square_least (suc d) = omega arith

square_high : (l d : ℕ) → (2 * l + 1) * (l + d) ≤ (l + d) * (l + d) + l * (l + 1)
square_high l d = omega (arith, square_least d)

tangent : (l a : ℕ) → (2 * l + 1) * a ≤ a * a + l * (l + 1)
tangent l a = elim (cases_lt a l) [
  | inl less ↦
      let d = l - a in
      let e : a + d ≡ l = omega arith in
      subst (λ (k : ℕ). (2 * k + 1) * a ≤ a * a + k * (k + 1)) e (square_low a d)
  | inr more ↦
      let d = a - l in
      let e : l + d ≡ a = omega arith in
      subst (λ (k : ℕ). (2 * l + 1) * k ≤ k * k + l * (l + 1)) e (square_high l d)
]

touches : (l a : ℕ) → (a ≡ l) ⊎ (a ≡ l + 1) → (2 * l + 1) * a ≡ a * a + l * (l + 1)
touches l a (inl e) = subst (λ (k : ℕ). (2 * l + 1) * k ≡ k * k + l * (l + 1)) (sym e) (omega arith)
touches l a (inr e) = subst (λ (k : ℕ). (2 * l + 1) * k ≡ k * k + l * (l + 1)) (sym e) (omega arith)

-- ---- groups

abbrev one_if : Bool → ℕ
one_if b = cond b 1 0

in_last : (p : Problem) (owner : ℕ → ℕ) (owners bin : ℕ) → owner bin < owners → (b : Bool) → one_if (eqb (cond b owners (owner bin)) owners) ≡ one_if b
in_last p owner owners bin l true = grind (arith, nat_tests)
in_last p owner owners bin l false = (let d : owner bin ≢ owners = omega arith in grind (arith, nat_tests, d))

-- each bin of these pairs has an owner
abbrev pub AreOwned : (ℕ → ℕ) → ℕ → List (ℕ × ℕ) → Type 0
AreOwned owner owners pairs = All (λ (q : ℕ × ℕ). owner q.1 < owners) pairs

pub owned_in : (p : Problem) (owner : ℕ → ℕ) (owners : ℕ) (pairs : List (ℕ × ℕ)) → IsProblem p → ((bin : ℕ) → bin < bins_of p → owner bin < owners) → IsFeasible p pairs → AreOwned owner owners pairs
owned_in p owner owners pairs valid owned h = All-weaker (λ (q : ℕ × ℕ). IsAllowed p q.0 q.1) (λ (q : ℕ × ℕ). owner q.1 < owners) (λ q a. owned q.1 (allowed_bin p valid q.0 q.1 a)) pairs h.allowed

-- the last group has what is left at draining bins
last_is_left : (p : Problem) (owner : ℕ → ℕ) (owners : ℕ) (pairs : List (ℕ × ℕ)) → AreOwned owner owners pairs → load_of p owner owners pairs owners ≡ left p pairs
last_is_left p owner owners [] owned = refl
last_is_left p owner owners (q ∷ pairs) owned =
    let rest = last_is_left p owner owners pairs (All-tail (λ (r : ℕ × ℕ). owner r.1 < owners) q pairs owned) in
    let mine : owner q.1 < owners = All-head (λ (r : ℕ × ℕ). owner r.1 < owners) q pairs owned in
    let here : one_if (eqb (group_of p owner owners q.1) owners) ≡ one_if (drains p q.1) = in_last p owner owners q.1 mine (drains p q.1) in
    omega (arith, rest, here, sum_by-cons (λ (r : ℕ × ℕ). (let n : ℕ = cond (eqb (group_of p owner owners r.1) owners) 1 0 in n)) q pairs, sum_by-cons (λ (r : ℕ × ℕ). (let n : ℕ = cond (drains p r.1) 1 0 in n)) q pairs)

pub group_below : (p : Problem) (owner : ℕ → ℕ) (owners bin : ℕ) → owner bin < owners → group_of p owner owners bin < suc owners
group_below p owner owners bin l = below (drains p bin)
  where
    below : (b : Bool) → cond b owners (owner bin) < suc owners
    below true = omega arith
    below false = omega (arith, l)

all_below : (p : Problem) (owner : ℕ → ℕ) (owners : ℕ) (pairs : List (ℕ × ℕ)) → AreOwned owner owners pairs → All (λ (q : ℕ × ℕ). group_of p owner owners q.1 < suc owners) pairs
all_below p owner owners pairs owned = All-weaker (λ (q : ℕ × ℕ). owner q.1 < owners) (λ (q : ℕ × ℕ). group_of p owner owners q.1 < suc owners) (λ q l. group_below p owner owners q.1 l) pairs owned

-- a sum over the pairs by their groups
pub by_group : (p : Problem) (owner : ℕ → ℕ) (owners : ℕ) (f : ℕ → ℕ) (pairs : List (ℕ × ℕ)) → AreOwned owner owners pairs → sum_by (λ (q : ℕ × ℕ). f (group_of p owner owners q.1)) pairs ≡ sum_below (λ c. f c * load_of p owner owners pairs c) owners + f owners * left p pairs
by_group p owner owners f pairs owned =
    let all = sum_by_key (λ (q : ℕ × ℕ). group_of p owner owners q.1) f (suc owners) pairs (all_below p owner owners pairs owned) in
    let last = ap (λ (n : ℕ). f owners * n) (last_is_left p owner owners pairs owned) in
    omega (arith, all, last)

-- ---- worth and levels

-- the level of a group: of the last one all that a pair can be worth
level_of : ℕ → List ℕ → ℕ → ℕ → ℕ
level_of owners levels keep group = cond (eqb group owners) keep (get_or levels group 0)

level_of_owner : (owners : ℕ) (levels : List ℕ) (keep c : ℕ) → c < owners → level_of owners levels keep c ≡ get_or levels c 0
unfolding level_of
level_of_owner owners levels keep c l = (let d : c ≢ owners = omega arith in grind (arith, nat_tests, d))

one_worth : (owners : ℕ) (levels : List ℕ) (keep c : ℕ) → c < owners → get_or levels c 0 ≤ keep → (b : Bool) → cond b 0 (keep - get_or levels c 0) + level_of owners levels keep (cond b owners c) ≡ keep
unfolding level_of
one_worth owners levels keep c l low true = grind (arith, nat_tests)
one_worth owners levels keep c l low false = omega (arith, low, level_of_owner owners levels keep c l)

worth_and_level : (p : Problem) (owner : ℕ → ℕ) (owners : ℕ) (levels : List ℕ) (keep : ℕ) (pairs : List (ℕ × ℕ)) → ((c : ℕ) → c < owners → get_or levels c 0 ≤ keep) → AreOwned owner owners pairs
    → worth_by (worth_at p owner levels keep) pairs + sum_by (λ (q : ℕ × ℕ). level_of owners levels keep (group_of p owner owners q.1)) pairs ≡ keep * length pairs
worth_and_level p owner owners levels keep [] low owned = omega arith
worth_and_level p owner owners levels keep (q ∷ pairs) low owned =
    let mine : owner q.1 < owners = All-head (λ (r : ℕ × ℕ). owner r.1 < owners) q pairs owned in
    omega (
      arith,
      one_worth owners levels keep (owner q.1) mine (low (owner q.1) mine) (drains p q.1),
      worth_and_level p owner owners levels keep pairs low (All-tail (λ (r : ℕ × ℕ). owner r.1 < owners) q pairs owned),
      sum_by-cons (λ (r : ℕ × ℕ). worth_at p owner levels keep r.0 r.1) q pairs,
      sum_by-cons (λ (r : ℕ × ℕ). level_of owners levels keep (group_of p owner owners r.1)) q pairs,
    )

sum_below-twice : (f g h : ℕ → ℕ) (n : ℕ) → sum_below (λ c. (2 * f c + 1) * g c) n ≡ 2 * sum_below (λ c. f c * g c) n + sum_below (λ c. 1 * g c) n
sum_below-twice f g h zero = omega arith
sum_below-twice f g h (suc n) = omega (arith, sum_below-twice f g h n)

pub ones : (pairs : List (ℕ × ℕ)) → sum_by (λ (q : ℕ × ℕ). 1) pairs ≡ length pairs
ones [] = refl
ones (q ∷ pairs) = omega (arith, ones pairs, sum_by-cons (λ (r : ℕ × ℕ). (let n : ℕ = 1 in n)) q pairs)

pub levelled_is_evenest : (p : Problem) (owner : ℕ → ℕ) (owners : ℕ) (levels : List ℕ) (keep : ℕ) (pairs : List (ℕ × ℕ)) (us vs : List ℕ) → IsProblem p → IsLevelled p owner owners levels keep pairs us vs → IsEvenest p owner owners pairs
levelled_is_evenest p owner owners levels keep pairs us vs valid h = record {
  feasible = h.feasible;
  even = λ others law as_many as_left.
      let level = λ (c : ℕ). level_of owners levels keep c in
      let owned_mine = owned_in p owner owners pairs valid h.owned h.feasible in
      let owned_theirs = owned_in p owner owners others valid h.owned law in
      let mine = λ (c : ℕ). load_of p owner owners pairs c in
      let theirs = λ (c : ℕ). load_of p owner owners others c in
      let bound = duality p (worth_at p owner levels keep) others us vs (allowed_bin p valid) h.priced law in
      let worth_mine = worth_and_level p owner owners levels keep pairs h.low owned_mine in
      let worth_theirs = worth_and_level p owner owners levels keep others h.low owned_theirs in
      let same_keep = ap (λ (n : ℕ). keep * n) as_many in
      let levels_mine = by_group p owner owners level pairs owned_mine in
      let levels_theirs = by_group p owner owners level others owned_theirs in
      let same_left = ap (λ (n : ℕ). level owners * n) as_left in
      let count_mine = by_group p owner owners (λ c. (let n : ℕ = 1 in n)) pairs owned_mine in
      let count_theirs = by_group p owner owners (λ c. (let n : ℕ = 1 in n)) others owned_theirs in
      let below = sum_below-le (λ c. (2 * level c + 1) * theirs c) (λ c. theirs c * theirs c + level c * (level c + 1)) owners (λ c l. tangent (level c) (theirs c)) in
      let equal = sum_below-same (λ c. (2 * level c + 1) * mine c) (λ c. mine c * mine c + level c * (level c + 1)) owners (λ c l. touches (level c) (mine c) (subst (λ (k : ℕ). (mine c ≡ k) ⊎ (mine c ≡ k + 1)) (sym (level_of_owner owners levels keep c l)) (h.loads c l))) in
      omega (
        arith,
        bound,
        h.sums,
        worth_mine,
        worth_theirs,
        same_keep,
        levels_mine,
        levels_theirs,
        same_left,
        count_mine,
        count_theirs,
        ones pairs,
        ones others,
        as_many,
        as_left,
        below,
        equal,
        sum_below-add (λ c. theirs c * theirs c) (λ c. level c * (level c + 1)) owners,
        sum_below-add (λ c. mine c * mine c) (λ c. level c * (level c + 1)) owners,
        sum_below-twice level theirs level owners,
        sum_below-twice level mine level owners,
      );
}
