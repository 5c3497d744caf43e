-- Where a name stands in a list in order, or where it would stand.
use Rattle.std.specs.Prelude.{◌≡◌, ℕ, ◌<◌, ◌≤◌, List, length, slice_index_or}
use Rattle.std.specs.declared.cmp.Ordering.TheVariants.{Less, Equal, Greater}
use Rattle.label_sets.specs.Labels.{LabelList, byte_cmp}

-- the name stands at place i
pub record IsHere (labels : LabelList) (name : List ℕ) (i : ℕ) : Type 0 where
  pub within : i < length labels
  pub tied : (d : List ℕ × List ℕ) → byte_cmp (slice_index_or labels i d).0 name ≡ Equal

-- the name would stand at place i: the names before it are below it, and the others above
pub record IsGap (labels : LabelList) (name : List ℕ) (i : ℕ) : Type 0 where
  pub within : i ≤ length labels
  pub below : (k : ℕ) (d : List ℕ × List ℕ) → k < i → byte_cmp (slice_index_or labels k d).0 name ≡ Less
  pub above : (k : ℕ) (d : List ℕ × List ℕ) → i ≤ k → k < length labels → byte_cmp (slice_index_or labels k d).0 name ≡ Greater
