-- Marks by number, taken back. No public contract cites them.
use Rattle.std.specs.Prelude.{◌≡◌, ◌<◌, ◌&&◌, ℕ, Bool, List, length, not}
use Rattle.fleet.specs.Live.{mark_at}

-- the marks of the numbers that pass are taken back
pub record TakesMarks (p : ℕ → Bool) (old new : List Bool) : Type 0 where
  pub same : length new ≡ length old
  pub at : (n : ℕ) → n < length old → mark_at new n ≡ (not (p n) && mark_at old n)
