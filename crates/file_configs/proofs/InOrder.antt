-- Values are gone through in their order.
use Rattle.std.proofs.Common.{◌≡◌, List, [], ◌∷◌, ◌++◌, map, refl, ap}
use Rattle.serde_json.specs.Data.{item}
use Rattle.serde_json.specs.View.{view, items_view, items_of}
use Rattle.serde_json.specs.declared.value.Value.{Value}
use Rattle.file_configs.specs.Sources.{job_with, jobs_with, source_of, with_entries}

pub jobs_in_order : (vs : List Value) → items_of (map (λ (v : Value). job_with (view v)) vs) ≡ jobs_with (items_view vs)
jobs_in_order [] = refl
jobs_in_order (v ∷ vs) = ap (item (job_with (view v))) (jobs_in_order vs)

pub entries_behind : (vs es : List Value) → items_of (map view vs ++ map (λ (v : Value). source_of (view v)) es) ≡ with_entries (items_view vs) (items_view es)
entries_behind [] [] = refl
entries_behind [] (e ∷ es) = ap (item (source_of (view e))) (entries_behind [] es)
entries_behind (v ∷ vs) es = ap (item (view v)) (entries_behind vs es)
