-- What every state keeps of its lists: whose targets a source lists, and that no target and no name stands twice.
use Rattle.std.specs.Prelude.{◌≡◌, ◌<◌, ◌==◌, ℕ, Bool, true, false, List, [], All, AllPairs, slice_get, slice_index_or}
use Rattle.std.specs.Option.{option_map_or}
use Rattle.std.specs.Str.{bytes_eq}
use Rattle.fleet.specs.KnownTarget.{same_known}
use Rattle.fleet.specs.declared.known_target.KnownTarget.{KnownTarget}
use Rattle.fleet.specs.declared.collector.Collector.{Collector}

-- what a source of a job lists
abbrev pub listed_at : List (List (List ℕ)) → ℕ → ℕ → List ℕ
listed_at listed job source = slice_index_or (slice_index_or listed job []) source []

-- the target of this number is one of the job
abbrev pub is_of : List KnownTarget → ℕ → ℕ → Bool
is_of known job target = option_map_or (λ (k : KnownTarget). k.job == job) (slice_get known target) false

pub record IsOrderly (listed : List (List (List ℕ))) (known : List KnownTarget) (collectors : List Collector) : Type 0 where
  -- a source lists targets of its own job alone
  pub own : (job source : ℕ) → All (λ (target : ℕ). is_of known job target ≡ true) (listed_at listed job source)
  -- in ascending order, each once
  pub rising : (job source : ℕ) → AllPairs (λ (a b : ℕ). a < b) (listed_at listed job source)
  -- no known target is the same as an earlier one
  pub once : AllPairs (λ (a b : KnownTarget). same_known b a ≡ false) known
  -- no two live collectors have one name
  pub named : AllPairs (λ (a b : Collector). bytes_eq a.name b.name ≡ false) collectors
