-- The allocator's lists, as the targets of an agent.
use Rattle.std.specs.Prelude.{ℕ, ◌&&◌, Bool, false, not, List, [], ◌∷◌, Option, Result, Ok, Err, codes, is_some, unwrap_or}
use Rattle.std.specs.Map.{lookup}
use Rattle.indexmap.specs.IndexMap.{insert_entry}
use Rattle.indexmap.specs.IndexSet.{insert_key}
use Rattle.label_sets.specs.Finish.{finished}
use Rattle.label_sets.specs.Labels.{LabelList, label_text, with_label}
use Rattle.label_sets.specs.Target.{FinalTarget, target_text}
use Rattle.label_sets.specs.declared.target.Finished.{Finished}
use Rattle.label_sets.specs.declared.target.Finished.TheVariants.{Target, NoAddress}
use Rattle.sd_documents.specs.Groups.{groups_read}
use Rattle.sd_documents.specs.declared.error.SdError.{SdError}
use Rattle.sd_documents.specs.declared.error.SdError.TheVariants as sd
use Rattle.sd_documents.specs.declared.group.Group.{Group}
use Rattle.agent_core.specs.Targets.{same_group, same_series}
use Rattle.agent_core.specs.declared.target.Listed.{Listed}
use Rattle.agent_core.specs.declared.target.Series.{Series}
use Rattle.agent_documents.specs.Numbers.{small_said}
use Rattle.agent_documents.specs.Reading.{◌>>=◌}
use Rattle.agent_documents.specs.Series.{public_labels, series_of}
use Rattle.agent_documents.specs.Urls.{url_of}
use Rattle.agent_documents.specs.declared.error.DocumentError.{DocumentError}
use Rattle.agent_documents.specs.declared.error.DocumentError.TheVariants.{Shape, NotJson, Memory}
use Rattle.agent_documents.specs.declared.error.Part.TheVariants as part

-- the target of a list, with its number if it has one
unfoldable pub listed_for : ℕ → Option ℕ → FinalTarget → Listed
listed_for job number target = record { job = job; group = target_text target; target = unwrap_or number 0; series = series_of (public_labels target.labels); alone = is_some number; shared = false; url = url_of target }

abbrev pub listed_by : ℕ → Option ℕ → Finished → Result Listed DocumentError
listed_by job number (Target target) = Ok (listed_for job number target)
listed_by job number NoAddress = Err (Shape part.Group)

-- a group has one target
abbrev pub addressed : ℕ → LabelList → List (List ℕ) → Result Listed DocumentError
addressed job labels [] = Err (Shape part.Group)
addressed job labels (address ∷ []) = listed_by job (small_said (label_text labels (codes "__meta_allocator_target"))) (finished (with_label labels (codes "__address__") address))
addressed job labels (address ∷ other ∷ addresses) = Err (Shape part.Group)

abbrev pub group_said : ℕ → Group → Result Listed DocumentError
group_said job group = addressed job group.labels group.targets

abbrev pub targets_said : ℕ → List Group → Result (List Listed) DocumentError
targets_said job [] = Ok []
targets_said job (group ∷ groups) = group_said job group >>= λ listed. targets_said job groups >>= λ targets. Ok (listed ∷ targets)

-- ---- series that targets share

-- a series of which a target was seen is shared
abbrev pub with_seen : List (Series × Bool) → Series → List (Series × Bool)
with_seen seen series = insert_entry same_series seen series (is_some (lookup (same_series series) seen))

abbrev pub seen_with : List (Series × Bool) → List Listed → List (Series × Bool)
seen_with seen [] = seen
seen_with seen (listed ∷ targets) = seen_with (with_seen seen listed.series) targets

abbrev pub is_shared : List (Series × Bool) → Series → Bool
is_shared seen series = unwrap_or (lookup (same_series series) seen) false

-- a target with a number is alone, or it shares its series
abbrev pub with_alone : List (Series × Bool) → Listed → Listed
with_alone seen listed =
    let is = is_shared seen listed.series in
    record listed { alone = listed.alone && not is; shared = listed.alone && is }

-- the targets, each group once
abbrev pub targets_with : List (Series × Bool) → List Listed → List Listed → List Listed
targets_with seen all [] = all
targets_with seen all (listed ∷ targets) = targets_with seen (insert_key same_group all (with_alone seen listed)) targets

-- why a list of groups is refused
abbrev pub refused : SdError → DocumentError
refused sd.Memory = Memory
refused sd.NotJson = NotJson
refused (sd.Shape _ _) = Shape part.Group
refused sd.BadLabelName = Shape part.Group
refused (sd.RepeatedJob _) = Shape part.Group
refused (sd.UnsupportedDiscovery _) = Shape part.Group
refused (sd.TooMany _) = Shape part.Group

abbrev pub as_refused : {A : Type 0} → Result A SdError → Result A DocumentError
as_refused (Ok x) = Ok x
as_refused (Err e) = Err (refused e)

abbrev pub lists_said : ℕ → List ℕ → Result (List Listed) DocumentError
lists_said job bytes = as_refused (groups_read bytes) >>= targets_said job
