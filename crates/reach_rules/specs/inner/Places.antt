-- Where a name stands among entries in order of their names, or where it would stand.
use Rattle.std.specs.Prelude.{◌≡◌, ℕ, ◌<◌, ◌≤◌, length, List, slice_index_or}
use Rattle.std.specs.declared.cmp.Ordering.TheVariants.{Less, Equal, Greater}
use Rattle.reach_rules.specs.Name.{byte_cmp}
use Rattle.reach_rules.specs.OwnLimits.{LimitList}

-- the name stands at place i
pub record IsHere (limits : LimitList) (name : List ℕ) (i : ℕ) : Type 0 where
  pub within : i < length limits
  pub tied : (d : List ℕ × ℕ) → byte_cmp (slice_index_or limits i d).0 name ≡ Equal

-- the name would stand at place i: the names before it are below it, and the others above
pub record IsGap (limits : LimitList) (name : List ℕ) (i : ℕ) : Type 0 where
  pub within : i ≤ length limits
  pub below : (k : ℕ) (d : List ℕ × ℕ) → k < i → byte_cmp (slice_index_or limits k d).0 name ≡ Less
  pub above : (k : ℕ) (d : List ℕ × ℕ) → i ≤ k → k < length limits → byte_cmp (slice_index_or limits k d).0 name ≡ Greater
