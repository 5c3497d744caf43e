-- Tables by number. No public contract cites them.
use Rattle.std.specs.Prelude.{◌≡◌, ℕ, ◌<◌, ◌&&◌, List, Bool, None, Option, length, slice_index_or}
use Rattle.fleet.specs.Live.{mark_at}
use Rattle.fleet_renewal.specs.Renewed.{new_number}

abbrev pub number_in : List (Option ℕ) → ℕ → Option ℕ
number_in numbers target = slice_index_or numbers target None

-- the new numbers of the targets that are marked
pub record AreNumbers (marks : List Bool) (numbers : List (Option ℕ)) : Type 0 where
  pub each : length numbers ≡ length marks
  pub at : (n : ℕ) → n < length marks → number_in numbers n ≡ new_number (mark_at marks) n

-- the marks that fail the test are taken back
pub record KeepsMarks (p : ℕ → Bool) (old new : List Bool) : Type 0 where
  pub same : length new ≡ length old
  pub at : (n : ℕ) → n < length old → mark_at new n ≡ (p n && mark_at old n)
