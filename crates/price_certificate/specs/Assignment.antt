-- Assignments: lists of pairs of an item and a bin. Nothing here speaks of prices.
use Rattle.std.specs.Prelude.{◌≡◌, ◌==◌, ◌-◌, ◌≤◌, ℕ, List, All, length, count_by}
use Rattle.price_certificate.specs.Problem.{Problem, IsAllowed, was_in, before_count, capacity_of, drains}

-- how many of the pairs have this item, this bin
abbrev pub uses_of_item : List (ℕ × ℕ) → ℕ → ℕ
uses_of_item pairs item = count_by (λ (q : ℕ × ℕ). q.0 == item) pairs

abbrev pub uses_of_bin : List (ℕ × ℕ) → ℕ → ℕ
uses_of_bin pairs bin = count_by (λ (q : ℕ × ℕ). q.1 == bin) pairs

-- each pair allowed, no item twice, no bin above its capacity
pub record IsFeasible (p : Problem) (pairs : List (ℕ × ℕ)) : Type 0 where
  pub allowed : All (λ (q : ℕ × ℕ). IsAllowed p q.0 q.1) pairs
  pub once : (item : ℕ) → uses_of_item pairs item ≤ 1
  pub within : (bin : ℕ) → uses_of_bin pairs bin ≤ capacity_of p bin

-- how many items an assignment covers
abbrev pub covered : List (ℕ × ℕ) → ℕ
covered pairs = length pairs

-- how many items it leaves at draining bins
abbrev pub left : Problem → List (ℕ × ℕ) → ℕ
left p pairs = count_by (λ (q : ℕ × ℕ). drains p q.1) pairs

-- how many pairs of the preceding assignment it keeps
abbrev pub kept : Problem → List (ℕ × ℕ) → ℕ
kept p pairs = count_by (λ (q : ℕ × ℕ). was_in p q.0 q.1) pairs

-- how many of them it loses
abbrev pub moved : Problem → List (ℕ × ℕ) → ℕ
moved p pairs = before_count p - kept p pairs

-- Feasible; no feasible list covers more; none that covers as many leaves fewer at draining bins; none equal in both moves fewer.
pub record IsOptimal (p : Problem) (pairs : List (ℕ × ℕ)) : Type 0 where
  pub feasible : IsFeasible p pairs
  pub covers_most : (others : List (ℕ × ℕ)) → IsFeasible p others → covered others ≤ covered pairs
  pub leaves_least : (others : List (ℕ × ℕ)) → IsFeasible p others → covered others ≡ covered pairs → left p pairs ≤ left p others
  pub moves_least : (others : List (ℕ × ℕ)) → IsFeasible p others → covered others ≡ covered pairs → left p others ≡ left p pairs → moved p pairs ≤ moved p others
