-- Which of the collectors that joined reach which of the targets that appeared: a row of answers for each collector, in which a
-- target's place is its number.
use Rattle.std.specs.Prelude.{ℕ, ◌-◌, ◌^◌, ◌==◌, List, [], ◌∷◌, ◌++◌, Bool, false, not, min, map, filter, find, slice_get, slice_index_or}
use Rattle.std.specs.Option.{option_map_or}
use Rattle.label_sets.specs.Target.{FinalTarget}
use Rattle.reach_rules.specs.declared.rule.ReachRule.{ReachRule}
use Rattle.reach_rules.specs.declared.row.Row.{Row}
use Rattle.reach_rules.specs.Rules.{reaches}

-- a collector that joined: its rules, and for each target that appeared whether they reach it
pub record ReachRow : Type 0 where
  pub id : ℕ
  pub rules : List ReachRule
  pub reached : List Bool

-- what contracts see of a `ReachTable`
pub record TableState : Type 0 where
  -- in order of joining
  pub rows : List ReachRow
  -- so many targets more can appear without memory
  pub spare : ℕ

-- what the rules say of the targets
abbrev pub answers : List ReachRule → List FinalTarget → List Bool
answers rules targets = map (reaches rules) targets

-- the row of a collector that joins where these targets appeared
abbrev pub row_of : ℕ → List ReachRule → List FinalTarget → ReachRow
row_of id rules targets = record { id = id; rules = rules; reached = answers rules targets }

-- a row after more targets appeared
abbrev pub answered : List FinalTarget → ReachRow → ReachRow
answered targets row = record row { reached = row.reached ++ answers row.rules targets }

-- the rows after a collector left
abbrev pub rows_without : List ReachRow → ℕ → List ReachRow
rows_without rows id = filter (λ row. not (row.id == id)) rows

-- the answer for the target of a number. Where there is none it is false
abbrev pub answer_in : ReachRow → ℕ → Bool
answer_in row number = slice_index_or row.reached number false

-- the collector of an id reaches the target of a number
abbrev pub is_reached : List ReachRow → ℕ → ℕ → Bool
is_reached rows id number = option_map_or (λ row. answer_in row number) (find (λ row. row.id == id) rows) false

-- the collector at a place in order of joining reaches the target of a number
abbrev pub is_reached_at : List ReachRow → ℕ → ℕ → Bool
is_reached_at rows place number = option_map_or (λ row. answer_in row number) (slice_get rows place) false

-- the row of a collector that reaches what the one at a place of other rows does, where the targets are those of these numbers there
abbrev pub row_as : ℕ → List ReachRule → List ReachRow → ℕ → List ℕ → ReachRow
row_as id rules rows place numbers = record { id = id; rules = rules; reached = map (is_reached_at rows place) numbers }

-- what the collector at a place reaches. Where there is none it is nothing
abbrev pub reached_in : List ReachRow → ℕ → List Bool
reached_in rows place = option_map_or (λ row. row.reached) (slice_get rows place) []

-- the row of a collector that reaches what the one at a place of these rows does
abbrev pub row_like : ℕ → List ReachRule → List ReachRow → ℕ → ReachRow
row_like id rules rows place = record { id = id; rules = rules; reached = reached_in rows place }

-- ---- how the rows are kept

abbrev pub shown : Row → ReachRow
shown row = record { id = row.id; rules = row.reach; reached = row.reached.bits }

-- for so many bits more each row has room
abbrev pub spare_in : List Row → ℕ
spare_in [] = 2 ^ 64 - 1
spare_in (row ∷ rows) = min row.reached.spare (spare_in rows)

abbrev pub table_of : List Row → TableState
table_of rows = record { rows = map shown rows; spare = spare_in rows }
