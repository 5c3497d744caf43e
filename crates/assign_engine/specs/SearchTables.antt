-- What a search knows so far.
use Rattle.std.specs.Prelude.{◌≡◌, ℕ, List, length}
use Rattle.assign_engine.specs.declared.ends.End.{End}

-- What contracts see of `SearchTables`. For each bin: how far it is by the shortest way found so far, at most as far as the new
-- item's own end; the last item on that way; and the turn in which it was settled, or the count of bins where it is not.
-- Then the frontier; what the best end found so far costs; that end; how many bins are settled; and those, in their order.
pub record SearchState : Type 0 where
  pub distances : List ℕ
  pub vias : List ℕ
  pub ranks : List ℕ
  pub pending : List (ℕ × ℕ)
  pub cost : ℕ
  pub end : End
  pub settled : ℕ
  pub settled_bins : List ℕ

-- the tables have an entry for each of this many bins
pub record HasBins (bins : ℕ) (tables : SearchState) : Type 0 where
  pub distances : length tables.distances ≡ bins
  pub vias : length tables.vias ≡ bins
  pub ranks : length tables.ranks ≡ bins
