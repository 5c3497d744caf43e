-- A certified assignment is optimal.
use Rattle.std.proofs.Common.{◌≡◌, ◌+◌, ◌-◌, ◌*◌, ◌<◌, ◌≤◌, ℕ, zero, suc, cond, Bool, true, false, List, [], ◌∷◌, inl, inr, length, sum_by, count_by, refl, ap, arith}
use Rattle.std.specs.Prelude.{not}
use Rattle.std.proofs.lemmas.List.Sums.{sum_by-cons, count_by-le-length}
use Rattle.std.proofs.lemmas.List.Elements.{All-weaker}
use Rattle.std.proofs.lemmas.Bool.{cases_lt}
use Rattle.std.proofs.lemmas.Bool.Decides.{nat_tests}
use Rattle.std.proofs.Math.Nat.{mul-le-mul_left}
use Rattle.price_certificate.specs.Problem.{Problem, IsProblem, items_of, cover_worth, steady_worth, weight_by, weight_of, was_in, drains, IsAllowed}
use Rattle.price_certificate.specs.Assignment.{uses_of_item, left, kept, IsFeasible, IsOptimal}
use Rattle.price_certificate.specs.Certificate.{sum_below, worth_of, IsCertified}
use Rattle.price_certificate.proofs.Duality.{allowed_item, duality}
use Rattle.price_certificate.specs.Faults.{weight_sum}
use Rattle.price_certificate.specs.declared.version.Version.{Version}
use Rattle.price_certificate.specs.declared.version.Version.TheVariants.{One, Two}
use Rattle.price_certificate.proofs.InstanceRows.{allowed_bin}
use Rattle.price_certificate.proofs.Weights.{levels-apart}
use Rattle.price_certificate.proofs.Sums.{sum_below-le, sum_by_key}

-- how many pairs are at bins that don't drain
steady : Problem → List (ℕ × ℕ) → ℕ
steady p pairs = count_by (λ (q : ℕ × ℕ). not (drains p q.1)) pairs

steady-cons : (p : Problem) (q : ℕ × ℕ) (pairs : List (ℕ × ℕ)) → steady p (q ∷ pairs) ≡ cond (drains p q.1) 0 1 + steady p pairs
unfolding steady
steady-cons p q pairs = grind (arith, nat_tests, sum_by-cons (λ (r : ℕ × ℕ). (let n : ℕ = cond (not (drains p r.1)) 1 0 in n)) q pairs)

steady-none : (p : Problem) → steady p [] ≡ 0
unfolding steady
steady-none p = refl

left-cons : (p : Problem) (q : ℕ × ℕ) (pairs : List (ℕ × ℕ)) → left p (q ∷ pairs) ≡ cond (drains p q.1) 1 0 + left p pairs
left-cons p q pairs = sum_by-cons (λ (r : ℕ × ℕ). (let n : ℕ = cond (drains p r.1) 1 0 in n)) q pairs

-- each pair is at a bin that drains or at one that does not
left_and_steady : (p : Problem) (pairs : List (ℕ × ℕ)) → left p pairs + steady p pairs ≡ length pairs
left_and_steady p [] = omega (arith, steady-none p)
left_and_steady p (q ∷ pairs) = grind (arith, left-cons p q pairs, steady-cons p q pairs, left_and_steady p pairs)

-- what the place of one pair adds
place_more : (s n : ℕ) (b : Bool) → s * (cond b 0 1 + n) ≡ cond b 0 s + s * n
place_more s n true = omega arith
place_more s n false = omega arith

worth_steady : (p : Problem) (pairs : List (ℕ × ℕ)) → worth_of p pairs ≡ cover_worth p.version (items_of p) * length pairs + steady_worth p.version (items_of p) * steady p pairs + kept p pairs
unfolding weight_by
worth_steady p [] = omega (arith, ap (λ (n : ℕ). steady_worth p.version (items_of p) * n) (steady-none p))
worth_steady p (q ∷ pairs) =
    let s = steady_worth p.version (items_of p) in
    omega (
      arith,
      worth_steady p pairs,
      sum_by-cons (λ (r : ℕ × ℕ). weight_of p r.0 r.1) q pairs,
      sum_by-cons (λ (r : ℕ × ℕ). (let n : ℕ = cond (was_in p r.0 r.1) 1 0 in n)) q pairs,
      ap (λ (n : ℕ). s * n) (steady-cons p q pairs),
      place_more s (steady p pairs) (drains p q.1),
    )

-- what a list is worth, by what it covers, leaves and keeps
pub worth_parts : (p : Problem) (pairs : List (ℕ × ℕ)) → worth_of p pairs ≡ weight_sum p pairs
worth_parts p pairs =
    let rest : length pairs - left p pairs ≡ steady p pairs = omega (arith, left_and_steady p pairs) in
    omega (arith, worth_steady p pairs, ap (λ (n : ℕ). steady_worth p.version (items_of p) * n) rest)

ones : {X : Type 0} (xs : List X) → sum_by (λ x. 1) xs ≡ length xs
ones [] = refl
ones {X} (x ∷ xs) = omega (arith, ones xs, sum_by-cons (λ (y : X). (let n : ℕ = 1 in n)) x xs)

ones_below : (n : ℕ) → sum_below (λ k. 1) n ≡ n
ones_below zero = refl
ones_below (suc n) = omega (arith, ones_below n)

-- a feasible list has at most as many pairs as there are items
pub covered-most : (p : Problem) (pairs : List (ℕ × ℕ)) → IsFeasible p pairs → length pairs ≤ items_of p
covered-most p pairs h =
    let inside = All-weaker (λ (q : ℕ × ℕ). IsAllowed p q.0 q.1) (λ (q : ℕ × ℕ). q.0 < items_of p) (λ q a. allowed_item p q.0 q.1 a) _ h.allowed in
    let e = sum_by_key (λ (q : ℕ × ℕ). q.0) (λ k. (let n : ℕ = 1 in n)) (items_of p) pairs inside in
    let l = sum_below-le (λ k. 1 * uses_of_item pairs k) (λ k. (let n : ℕ = 1 in n)) (items_of p) (λ k m. omega (arith, h.once k)) in
    omega (arith, e, l, ones pairs, ones_below (items_of p))

covers : (c s t a b m n k l : ℕ) → c * a + s * m + k ≤ c * b + s * n + l → n ≤ t → l ≤ t → s * t + t < c → a ≤ b
covers c s t a b m n k l h few some apart = elim (cases_lt b a) [
  | inl more ↦ absurd (let one : b + 1 ≤ a = omega arith in omega (arith, mul-le-mul_left c one, mul-le-mul_left s few))
  | inr most ↦ most
]

leaves : (c s t a b m n k l : ℕ) → c * a + s * m + k ≤ c * b + s * n + l → a ≡ b → l ≤ t → t < s → m ≤ n
leaves c s t a b m n k l h e some apart = elim (cases_lt n m) [
  | inl more ↦ absurd (let one : n + 1 ≤ m = omega arith in omega (arith, mul-le-mul_left s one, ap (λ (x : ℕ). c * x) e))
  | inr most ↦ most
]

keeps : (c s a b m n k l : ℕ) → c * a + s * m + k ≤ c * b + s * n + l → a ≡ b → m ≡ n → k ≤ l
keeps c s a b m n k l h e f = omega (arith, ap (λ (x : ℕ). c * x) e, ap (λ (x : ℕ). s * x) f)

none_left : (p : Problem) (pairs : List (ℕ × ℕ)) → ((bin : ℕ) → drains p bin ≡ false) → left p pairs ≡ 0
none_left p [] h = refl
none_left p (q ∷ pairs) h = omega (arith, left-cons p q pairs, ap (λ (b : Bool). (let n : ℕ = cond b 1 0 in n)) (h q.1), none_left p pairs h)

-- in version 1 nothing is left at draining bins, in version 2 a steady bin outweighs all that is kept
leaves_by : (p : Problem) (pairs others : List (ℕ × ℕ)) (v : Version) → p.version ≡ v → IsProblem p → (c k l : ℕ) → c * length others + steady_worth p.version (items_of p) * steady p others + k ≤ c * length pairs + steady_worth p.version (items_of p) * steady p pairs + l → length others ≡ length pairs → l ≤ items_of p → left p pairs ≤ left p others
leaves_by p pairs others One is valid c k l h e some = omega (arith, none_left p pairs (valid.old is))
leaves_by p pairs others Two is valid c k l h e some =
    let s = steady_worth p.version (items_of p) in
    let two : s ≡ items_of p + 1 = ap (λ (v : Version). steady_worth v (items_of p)) is in
    let apart : items_of p < s = omega (arith, two) in
    let fewer = leaves c s (items_of p) (length others) (length pairs) (steady p others) (steady p pairs) k l h e some apart in
    omega (arith, fewer, left_and_steady p pairs, left_and_steady p others)

pub optimal : (p : Problem) (pairs : List (ℕ × ℕ)) (us vs : List ℕ) → IsProblem p → IsCertified p pairs us vs → IsOptimal p pairs
optimal p pairs us vs valid h =
    let t = items_of p in
    let c = cover_worth p.version t in
    let s = steady_worth p.version t in
    let all : length pairs ≤ t = covered-most p pairs h.feasible in
    let some : kept p pairs ≤ t = omega (arith, all, count_by-le-length (λ (q : ℕ × ℕ). was_in p q.0 q.1) pairs) in
    let few : steady p pairs ≤ t = omega (arith, all, left_and_steady p pairs) in
    let worth = λ (others : List (ℕ × ℕ)) (law : IsFeasible p others). (let r : c * length others + s * steady p others + kept p others ≤ c * length pairs + s * steady p pairs + kept p pairs = omega (arith, duality p (weight_of p) others us vs (allowed_bin p valid) h.priced law, h.sums, worth_steady p pairs, worth_steady p others) in r) in
    record {
      feasible = h.feasible;
      covers_most = λ others law. covers c s t (length others) (length pairs) (steady p others) (steady p pairs) (kept p others) (kept p pairs) (worth others law) few some (levels-apart p.version t);
      leaves_least = λ others law e. leaves_by p pairs others p.version refl valid c (kept p others) (kept p pairs) (worth others law) e some;
      moves_least = λ others law e f. (let g : steady p others ≡ steady p pairs = omega (arith, e, f, left_and_steady p pairs, left_and_steady p others) in omega (arith, keeps c s (length others) (length pairs) (steady p others) (steady p pairs) (kept p others) (kept p pairs) (worth others law) e g));
    }
