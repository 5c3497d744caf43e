-- The targets of a discovery: each is a target group with one target text, in the form of a target group of Prometheus.
use Rattle.std.specs.Prelude.{◌≡◌, ◌<◌, ℕ, List, [], ◌∷◌, Option, Some, None, length, option_and_then, slice_index_or, codes, if◌then◌else◌}
use Rattle.std.specs.Result.{result_ok}
use Rattle.std.specs.Str.{bytes_eq}
use Rattle.serde_json.specs.Data.{Data}
use Rattle.json_values.specs.Texts.{ReadsTokens}
use Rattle.label_sets.specs.Finish.{finished}
use Rattle.label_sets.specs.Labels.{LabelList, with_label}
use Rattle.label_sets.specs.Target.{FinalTarget, target_data}
use Rattle.label_sets.specs.declared.target.Finished.{Finished}
use Rattle.label_sets.specs.declared.target.Finished.TheVariants.{Target, NoAddress}
use Rattle.sd_documents.specs.Groups.{group_said}
use Rattle.sd_documents.specs.declared.error.Member.TheVariants.{Groups}
use Rattle.sd_documents.specs.declared.group.Group.{Group}

-- a text that is not empty
abbrev pub filled_text : List ℕ → Option (List ℕ)
filled_text text = if bytes_eq text [] then None else Some text

-- the one target text of a group, where there is just one and it is not empty
abbrev pub only_address : List (List ℕ) → Option (List ℕ)
only_address [] = None
only_address (address ∷ []) = filled_text address
only_address (address ∷ other ∷ more) = None

abbrev pub finished_target : Finished → Option FinalTarget
finished_target (Target target) = Some target
finished_target NoAddress = None

-- The text becomes the `__address__`, whatever the labels say of it.
abbrev pub target_at : LabelList → List ℕ → Option FinalTarget
target_at labels address = finished_target (finished (with_label labels (codes "__address__") address))

abbrev pub target_of : Group → Option FinalTarget
target_of group = option_and_then (target_at group.labels) (only_address group.targets)

-- a target group that is read without a fault
abbrev pub group_in : Data → Option Group
group_in d = result_ok (group_said 0 Groups d)

unfoldable pub target_in : Data → Option FinalTarget
target_in d = option_and_then target_of (group_in d)

-- ---- for private clauses: a target's group is read as JSON, and as the target

abbrev pub IsReadBack : FinalTarget → Type 0
IsReadBack target = ReadsTokens (target_data target) × (target_in (target_data target) ≡ Some target)

-- all of them
abbrev pub AreReadBack : List FinalTarget → Type 0
AreReadBack targets = (i : ℕ) (d : FinalTarget) → i < length targets → IsReadBack (slice_index_or targets i d)
