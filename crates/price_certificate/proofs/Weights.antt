-- The laws of capacities and weights, by which all else knows them.
use Rattle.std.proofs.Common.{◌≡◌, ◌+◌, ◌*◌, ◌<◌, ◌≤◌, ◌^◌, ℕ, cond, get_or, Bool, true, false, Option, Some, refl, ap, ◌∙◌, arith}
use Rattle.std.proofs.lemmas.Bool.{eq-eqb}
use Rattle.std.proofs.lemmas.Bool.Decides.{nat_tests}
use Rattle.std.proofs.Math.Nat.{mul-le-mul}
use Rattle.price_certificate.specs.Problem.{Problem, IsProblem, items_of, capacity_by, capacity_of, cover_worth, steady_worth, weight_by, weight_of, top_weight, is_bin, was_in, before_of, drains}
use Rattle.price_certificate.specs.declared.shape.TheConstants.{MOST_ITEMS}
use Rattle.price_certificate.specs.declared.version.Version.{Version}
use Rattle.price_certificate.specs.declared.version.Version.TheVariants.{One, Two}

by_positive : (items limit : ℕ) → 0 < items → 0 < capacity_by items limit
unfolding capacity_by
by_positive items limit h = grind (arith, nat_tests)

-- where there are items, each bin may have one
pub capacity-positive : (p : Problem) (bin : ℕ) → 0 < items_of p → 0 < capacity_of p bin
capacity-positive p bin h = by_positive (items_of p) (get_or p.limits bin 0) h

-- no bin may have more than all items
pub capacity-most : (p : Problem) (bin : ℕ) → capacity_of p bin ≤ items_of p
unfolding capacity_by
capacity-most p bin = grind (arith, nat_tests)

-- no pair is worth more than the top weight
pub weight-most : (p : Problem) (item bin : ℕ) → weight_of p item bin ≤ top_weight p
unfolding weight_by top_weight
weight-most p item bin = grind (arith, nat_tests)

-- a pair of the preceding assignment at a bin that does not drain is worth the top weight
pub weight-before : (p : Problem) (item bin : ℕ) → before_of p item ≡ Some bin → drains p bin ≡ false → weight_of p item bin ≡ top_weight p
unfolding weight_by top_weight
weight-before p item bin e d =
    let was : was_in p item bin ≡ true = ap (λ (o : Option ℕ). is_bin o bin) e ∙ eq-eqb bin bin refl in
    omega (arith, ap (λ (b : Bool). (let n : ℕ = cond b 0 (steady_worth p.version (items_of p)) in n)) d, ap (λ (b : Bool). (let n : ℕ = cond b 1 0 in n)) was)

-- what an item at a steady bin can add to what it keeps is less than what covering one is worth
pub levels-apart : (version : Version) (items : ℕ) → steady_worth version items * items + items < cover_worth version items
levels-apart One items = omega arith
levels-apart Two items = omega arith

-- the levels fit 32 bits
cover-small : (version : Version) (items : ℕ) → items ≤ MOST_ITEMS → cover_worth version items ≤ 268468225
cover-small One items h = omega arith
cover-small Two items h = (let l : items + 1 ≤ 16385 = omega arith in mul-le-mul l l)

steady-small : (version : Version) (items : ℕ) → items ≤ MOST_ITEMS → steady_worth version items ≤ 16385
steady-small One items h = omega arith
steady-small Two items h = omega arith

-- the top weight fits 32 bits
pub top-small : (p : Problem) → IsProblem p → top_weight p < 2 ^ 32
unfolding top_weight
top-small p h = omega (arith, cover-small p.version (items_of p) h.reach.items, steady-small p.version (items_of p) h.reach.items)

pub weight-small : (p : Problem) → IsProblem p → (item bin : ℕ) → weight_of p item bin < 2 ^ 32
weight-small p h item bin = omega (arith, top-small p h, weight-most p item bin)
