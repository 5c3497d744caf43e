-- What an entry that leaves the frontier says of the bins that are not settled.
use Rattle.std.proofs.Common.{◌≡◌, ◌<◌, ◌≤◌, ℕ, List, Contains, inl, inr, ◌⊎◌, length, get_or, sym, ap, ◌∙◌, subst, arith}
use Rattle.std.proofs.lemmas.Bool.{cases_lt}
use Rattle.assign_engine.specs.Pending.{HasPending, HasPendingBut, IsNearest, AllFar}

module _ (d ranks : List ℕ) (cost : ℕ) (f g : List (ℕ × ℕ)) (h : HasPending d ranks cost f) (r : ℕ × ℕ) (least : (e : ℕ × ℕ) → Contains f e → r.0 ≤ e.0) (rest : (e : ℕ × ℕ) → Contains f e → (e ≡ r) ⊎ Contains g e) where
  pub all_far : cost ≤ r.0 → AllFar d ranks cost
  all_far c = record { far = λ x l w. elim (cases_lt (get_or d x 0) cost) [ inl m ↦ (let e = least _ (h.entry x l w m) in omega arith) | inr m ↦ m ] }

  pub is_nearest : (b : ℕ) → r.1 ≡ b → r.0 < cost → b < length d → get_or ranks b 0 ≡ length ranks → get_or d b 0 ≡ r.0 → IsNearest d ranks cost b
  is_nearest b e c l w k = record {
    in_range = l;
    waits = w;
    below = omega arith;
    least = λ x m n. elim (cases_lt (get_or d x 0) cost) [ inl q ↦ (let z = least _ (h.entry x m n q) in omega arith) | inr q ↦ omega arith ];
  }

  pub pending_but : (b : ℕ) → r.1 ≡ b → HasPendingBut d ranks cost b g
  pending_but b e = record { entry = λ x n l w c. elim (rest _ (h.entry x l w c)) [ inl q ↦ absurd (n (ap (λ (z : ℕ × ℕ). z.1) q ∙ e)) | inr m ↦ m ] }

  pub pending_on : (b : ℕ) → r.1 ≡ b → (b < length d → get_or ranks b 0 ≡ length ranks → get_or d b 0 ≡ r.0 → ⊥) → HasPending d ranks cost g
  pending_on b e stale = record {
    entry = λ x l w c. elim (rest _ (h.entry x l w c)) [
      | inl q ↦
          let xb : x ≡ b = ap (λ (z : ℕ × ℕ). z.1) q ∙ e in
          absurd (subst (λ (m : ℕ). m < length d → get_or ranks m 0 ≡ length ranks → get_or d m 0 ≡ r.0 → ⊥) (sym xb) stale l w (ap (λ (z : ℕ × ℕ). z.0) q))
      | inr m ↦ m
    ];
  }
