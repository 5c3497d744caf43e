-- The lower of two limits, where 0 is no limit.
use Rattle.std.proofs.Common.{◌≡◌, ◌≢◌, ℕ, ◌≤◌, Bool, cond, eqb, min, sym, ap, subst, ◌∙◌, inl, inr, arith}
use Rattle.std.proofs.lemmas.Bool.{cases_eq, eq-eqb, ne_eqb}
use Rattle.price_certificate.specs.Problem.{capacity_by}
use Rattle.fleet.specs.ShareLimit.{lower_limit}

lower_none : (a b : ℕ) → a ≡ 0 → lower_limit a b ≡ b
lower_none a b e = ap (λ (c : Bool). cond c b (cond (eqb b 0) a (min a b))) (eq-eqb a 0 e)

lower_one : (a b : ℕ) → a ≢ 0 → b ≡ 0 → lower_limit a b ≡ a
lower_one a b d e = ap (λ (c : Bool). cond c b (cond (eqb b 0) a (min a b))) (ne_eqb a 0 d) ∙ ap (λ (c : Bool). cond c a (min a b)) (eq-eqb b 0 e)

lower_both : (a b : ℕ) → a ≢ 0 → b ≢ 0 → lower_limit a b ≡ min a b
lower_both a b d e = ap (λ (c : Bool). cond c b (cond (eqb b 0) a (min a b))) (ne_eqb a 0 d) ∙ ap (λ (c : Bool). cond c a (min a b)) (ne_eqb b 0 e)

-- what is within both limits is within the lower
pub lower_least : (a b n : ℕ) → (a ≢ 0 → n ≤ a) → (b ≢ 0 → n ≤ b) → lower_limit a b ≢ 0 → n ≤ lower_limit a b
lower_least a b n first second some = elim (cases_eq a 0) [
  | inl e ↦ (let low = lower_none a b e in omega (arith, low, second (λ z. some (low ∙ z))))
  | inr d ↦ elim (cases_eq b 0) [
    | inl e ↦ omega (arith, lower_one a b d e, first d)
    | inr f ↦ omega (arith, lower_both a b d f, first d, second f)
  ]
]

min_some : (a b : ℕ) → a ≢ 0 → b ≢ 0 → min a b ≢ 0
min_some a b d e = elim (cases_eq (min a b) 0) [ inl z ↦ absurd (min_none a b d e z) | inr n ↦ n ]
  where
    min_none : (a b : ℕ) → a ≢ 0 → b ≢ 0 → min a b ≡ 0 → ⊥
    min_none a b d e z = omega (arith, d, e, z)

capacity_le : (items limit : ℕ) → limit ≢ 0 → capacity_by items limit ≤ limit
unfolding capacity_by
capacity_le items limit d = rw (ne_eqb limit 0 d) (omega arith)

-- what fits a capacity is within each of its limits
pub capacity_first : (items a b : ℕ) → a ≢ 0 → capacity_by items (lower_limit a b) ≤ a
capacity_first items a b d = elim (cases_eq b 0) [
  | inl e ↦ subst (λ (n : ℕ). capacity_by items n ≤ a) (sym (lower_one a b d e)) (capacity_le items a d)
  | inr f ↦ subst (λ (n : ℕ). capacity_by items n ≤ a) (sym (lower_both a b d f)) (omega (arith, capacity_le items (min a b) (min_some a b d f)))
]

pub capacity_second : (items a b : ℕ) → b ≢ 0 → capacity_by items (lower_limit a b) ≤ b
capacity_second items a b f = elim (cases_eq a 0) [
  | inl e ↦ subst (λ (n : ℕ). capacity_by items n ≤ b) (sym (lower_none a b e)) (capacity_le items b f)
  | inr d ↦ subst (λ (n : ℕ). capacity_by items n ≤ b) (sym (lower_both a b d f)) (omega (arith, capacity_le items (min a b) (min_some a b d f)))
]
