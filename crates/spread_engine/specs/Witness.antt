-- Assignments that shift: one item after the other moves to another bin, so that what is covered and left stays.
use Rattle.std.specs.Prelude.{◌≡◌, ◌+◌, ◌<◌, ◌≤◌, ℕ, Bool, List, length, slice_index_or, slice_set, if◌then◌else◌}
use Rattle.price_certificate.specs.Problem.{Problem, IsAllowed, capacity_of, drains}
use Rattle.price_certificate.specs.Assignment.{IsFeasible, IsOptimal, covered, left, moved, uses_of_bin}
use Rattle.spread_certificate.specs.Within.{IsWithin}

abbrev pub one_if : Bool → ℕ
one_if b = if b then 1 else 0

-- the pair at a place
abbrev pub pair_at : List (ℕ × ℕ) → ℕ → ℕ × ℕ
pair_at pairs place = slice_index_or pairs place (0, 0)

-- What contracts see of a `Witness`: its pairs, and how many bins there are.
pub record Held : Type 0 where
  pub pairs : List (ℕ × ℕ)
  pub bins : ℕ

-- after any shifts: what was feasible is so still, and as many items are covered and left
pub record IsShifted (p : Problem) (old new : List (ℕ × ℕ)) : Type 0 where
  pub feasible : IsFeasible p old → IsFeasible p new
  pub covers : length new ≡ length old
  pub leaves : left p new ≡ left p old

-- the item of a place may move to a bin
pub record MayShift (p : Problem) (pairs : List (ℕ × ℕ)) (bins place bin : ℕ) : Type 0 where
  pub place_in_range : place < length pairs
  pub bin_in_range : bin < bins
  pub from_in_range : (pair_at pairs place).1 < bins
  pub allowed : IsAllowed p (pair_at pairs place).0 bin
  pub room : uses_of_bin pairs bin < capacity_of p bin
  pub alike : drains p (pair_at pairs place).1 ≡ drains p bin

-- the item of a place moved to a bin, and no other did
abbrev pub IsMoved : ℕ → ℕ → List (ℕ × ℕ) → List (ℕ × ℕ) → Type 0
IsMoved place bin old new = new ≡ slice_set old place ((pair_at old place).0, bin)

-- some assignment fits into the caps that covers and leaves as many as this one, and moves at most so many more
pub record AreNear (p : Problem) (start : List (ℕ × ℕ)) (most : ℕ) (caps : List ℕ) : Type 0 where
  pub witness : List (ℕ × ℕ)
  pub feasible : IsFeasible p witness
  pub within : IsWithin caps witness
  pub covers : covered witness ≡ covered start
  pub leaves : left p witness ≡ left p start
  pub moves : moved p witness ≤ moved p start + most

-- it moves at most so many more than any best assignment
abbrev pub MovesFew : Problem → List (ℕ × ℕ) → ℕ → Type 0
MovesFew p pairs most = (others : List (ℕ × ℕ)) → IsOptimal p others → moved p pairs ≤ moved p others + most
