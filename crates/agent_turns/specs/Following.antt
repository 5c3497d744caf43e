-- Which series Prometheus is to let go of.
use Rattle.std.specs.Prelude.{ℕ, ◌+◌, ◌-◌, ◌==◌, min, Bool, true, false, List, [], ◌∷◌, slice_get, unwrap_or, if◌then◌else◌}
use Rattle.std.specs.List.{list_any}
use Rattle.std.specs.Map.{lookup}
use Rattle.std.specs.Option.{option_map_or}
use Rattle.indexmap.specs.IndexMap.{insert_entry}
use Rattle.indexmap.specs.IndexSet.{insert_key}
use Rattle.agent_core.specs.Targets.{same_series}
use Rattle.agent_core.specs.declared.target.Series.{Series}
use Rattle.agent_core.specs.declared.target.Listed.{Listed}

-- the series of targets, each once, behind these
abbrev pub held_from : List Series → List Listed → List Series
held_from all [] = all
held_from all (listed ∷ targets) = held_from (insert_key same_series all listed.series) targets

-- how many of a series are left of these
abbrev pub left : List (Series × ℕ) → Series → ℕ
left kept series = unwrap_or (lookup (same_series series) kept) 0

-- one more of a series, as far as 64 bits count
abbrev pub with_one : List (Series × ℕ) → Series → List (Series × ℕ)
with_one kept series = insert_entry same_series kept series (min (left kept series + 1) 18446744073709551615)

abbrev pub with_place : List Listed → List (Series × ℕ) → ℕ → List (Series × ℕ)
with_place targets kept place = option_map_or (λ (listed : Listed). with_one kept listed.series) (slice_get targets place) kept

-- how many of the targets at these places have each series
abbrev pub served_from : List Listed → List (Series × ℕ) → List ℕ → List (Series × ℕ)
served_from targets kept [] = kept
served_from targets kept (place ∷ places) = served_from targets (with_place targets kept place) places

-- one less of a series
abbrev pub without_one : List (Series × ℕ) → Series → List (Series × ℕ)
without_one kept series = insert_entry same_series kept series (left kept series - 1)

-- of each series that is held no more targets are scraped than these
abbrev pub all_let_go : List Series → List (Series × ℕ) → List Series → Bool
all_let_go held kept [] = true
all_let_go held kept (series ∷ scraped) =
    if list_any (same_series series) held then (if left kept series == 0 then false else all_let_go held (without_one kept series) scraped) else all_let_go held kept scraped

abbrev pub lets_go : List Listed → List ℕ → List Series → Bool
lets_go targets served scraped = all_let_go (held_from [] targets) (served_from targets [] served) scraped
