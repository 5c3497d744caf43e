-- How observed durations are counted.
use Rattle.std.specs.Prelude.{ℕ, ◌+◌, ◌*◌, ◌-◌, ◌^◌, List, [], ◌∷◌, Bool, min, nat_le, map, if◌then◌else◌}
use Rattle.exposition.specs.declared.durations.Bucket.{Bucket}
use Rattle.exposition.specs.declared.durations.Durations.{Durations}

abbrev pub empty : ℕ → Bucket
empty bound = record { bound = bound; count = 0 }

-- the bounds in milliseconds
abbrev pub bounds : List ℕ
bounds = 5 ∷ 10 ∷ 25 ∷ 50 ∷ 100 ∷ 200 ∷ 400 ∷ 1000 ∷ 3000 ∷ 8000 ∷ 20000 ∷ 60000 ∷ 120000 ∷ []

-- no observation
abbrev pub none : Durations
none = record { buckets = map empty bounds; count = 0; sum = 0 }

-- a number of 64 bits, or the last one where it is larger
abbrev pub up_to_last : ℕ → ℕ
up_to_last n = min n (2 ^ 64 - 1)

-- a duration is counted where it is no longer than the bound
abbrev pub observed : ℕ → Bucket → Bucket
observed microseconds b = if nat_le microseconds (b.bound * 1000) then record { bound = b.bound; count = up_to_last (b.count + 1) } else b

-- the durations and one more
abbrev pub with_one : ℕ → Durations → Durations
with_one microseconds d = record {
  buckets = map (observed microseconds) d.buckets;
  count = up_to_last (d.count + 1);
  sum = up_to_last (d.sum + microseconds);
}
