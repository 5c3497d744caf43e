-- Allocations as spans: a target's holder from one number to another.
use Rattle.std.specs.Prelude.{◌≡◌, ℕ, zero, suc, ◌<◌, ◌≤◌, ◌-◌, ◌==◌, ◌&&◌, Bool, false, not, ◌⊎◌, List, [], ◌∷◌, ◌++◌, if◌then◌else◌, length, nat_le, filter, Option, Some, None}
use Rattle.handover.specs.Handover.{beside, holds}
use Rattle.handover.specs.declared.spans.Span.{Span}
use Rattle.handover.specs.declared.spans.TheConstants.{OPEN}

-- the spans of one target in order of number, and how many more there is room for
pub record Row : Type 0 where
  pub spans : List Span
  pub room : ℕ

-- a span has the number
abbrev pub covers : Span → ℕ → Bool
covers span number = nat_le span.first number && nat_le number span.last

-- the holder of a number
abbrev pub holder_at : List Span → ℕ → Option ℕ
holder_at [] number = None
holder_at (span ∷ spans) number = if covers span number then Some span.collector else holder_at spans number

-- the spans of a target, none where it has no row
abbrev pub spans_of : List Row → ℕ → List Span
spans_of [] target = []
spans_of (row ∷ rows) zero = row.spans
spans_of (row ∷ rows) (suc target) = spans_of rows target

-- the room of a target, none where it has no row
abbrev pub room_of : List Row → ℕ → ℕ
room_of [] target = 0
room_of (row ∷ rows) zero = row.room
room_of (row ∷ rows) (suc target) = room_of rows target

-- the pairs, after that of a target where it has a holder
abbrev pub with_pair : ℕ → Option ℕ → List (ℕ × ℕ) → List (ℕ × ℕ)
with_pair target None pairs = pairs
with_pair target (Some collector) pairs = (target, collector) ∷ pairs

-- the pairs of a number, where the first row is of the target
abbrev pub pairs_from : List Row → ℕ → ℕ → List (ℕ × ℕ)
pairs_from [] target number = []
pairs_from (row ∷ rows) target number = with_pair target (holder_at row.spans number) (pairs_from rows (suc target) number)

-- the allocations of the numbers from 1 on, so many
abbrev pub lists_of : List Row → ℕ → List (List (ℕ × ℕ))
lists_of rows zero = []
lists_of rows (suc before) = lists_of rows before ++ pairs_from rows 0 (suc before) ∷ []

-- a span that is open at a number ends with it
abbrev pub ended : ℕ → Span → Span
ended number span = if span.last == OPEN then record span { last = number } else span

-- the spans, the last of which ends with a number if it is open
abbrev pub closed : ℕ → List Span → List Span
closed number [] = []
closed number (span ∷ []) = ended number span ∷ []
closed number (span ∷ next ∷ spans) = span ∷ closed number (next ∷ spans)

-- the spans, and one that is open from a number on
abbrev pub opened : ℕ → ℕ → List Span → List Span
opened number collector spans = spans ++ record { first = number; last = OPEN; collector = collector } ∷ []

-- the spans of a target after one change for each pair of the target
abbrev pub changed : (ℕ → List Span → List Span) → List (ℕ × ℕ) → ℕ → List Span → List Span
changed change [] target spans = spans
changed change (q ∷ pairs) target spans = changed change pairs target (if q.0 == target then change q.1 spans else spans)

-- the first pair of the target is the collector's
abbrev pub is_beside : List (ℕ × ℕ) → ℕ → ℕ → Bool
is_beside pairs target collector = holds (beside pairs target) collector

-- the pairs that the others lack
abbrev pub without : List (ℕ × ℕ) → List (ℕ × ℕ) → List (ℕ × ℕ)
without others pairs = filter (λ (q : ℕ × ℕ). not (is_beside others q.0 q.1)) pairs

-- a span with this last number ended before the current number, or is open
abbrev pub HasEnd : ℕ → ℕ → Type 0
HasEnd number last = (last < number) ⊎ (last ≡ OPEN)

-- the spans begin after one number and up to the current one, each after the end of the one before. So the last alone may be open
abbrev pub AreSpans : ℕ → ℕ → List Span → Type 0
AreSpans number after [] = Unit {0}
AreSpans number after (span ∷ spans) = (after < span.first) × (span.first ≤ span.last) × (span.first ≤ number) × HasEnd number span.last × AreSpans number span.last spans

-- the spans of all targets
abbrev pub AreRows : ℕ → List Row → Type 0
AreRows number rows = (target : ℕ) → AreSpans number 0 (spans_of rows target)

-- what is kept: the current number, its pairs, and the rows of all targets
pub record IsKept (number : ℕ) (pairs : List (ℕ × ℕ)) (rows : List Row) : Type 0 where
  pub current : pairs ≡ pairs_from rows 0 number
  pub spans : AreRows number rows
  pub most : length rows ≤ 4294967296

-- from the first number of a span to this one its collector is the holder
pub record IsHeldBy (spans : List Span) (number : ℕ) (span : Span) : Type 0 where
  pub some : 0 < span.first
  pub begun : span.first ≤ number
  pub held : (k : ℕ) → span.first ≤ k → k ≤ number → holder_at spans k ≡ Some span.collector

-- a collector is the holder from one number to another, and not before
pub record IsRun (spans : List Span) (number collector first : ℕ) : Type 0 where
  pub some : 0 < first
  pub begun : first ≤ number
  pub held : (k : ℕ) → first ≤ k → k ≤ number → holder_at spans k ≡ Some collector
  pub fresh : holds (holder_at spans (first - 1)) collector ≡ false

-- the holder of a number is it from the first number on
abbrev pub IsSince : List Span → ℕ → ℕ → Type 0
IsSince spans number first = (collector : ℕ) × IsRun spans number collector first
