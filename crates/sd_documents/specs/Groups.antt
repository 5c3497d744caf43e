-- Target groups, in the form of a target group of Prometheus: an object with the list `targets` of texts, and the
-- object `labels` from label names to texts. Members that are absent or null are empty, and others don't matter.
use Rattle.std.specs.Prelude.{ℕ, List, [], length, sum_by, nat_le, Option, Some, None, Result, Ok, Err, is_some, codes, if◌then◌else◌}
use Rattle.std.specs.Option.{ok_or}
use Rattle.serde_json.specs.Data.{Data, Members, no_members, member}
use Rattle.serde_json.specs.Find.{get, as_array, as_object, as_null}
use Rattle.label_sets.specs.Name.{is_label_name}
use Rattle.label_sets.specs.Labels.{LabelList, with_label}
use Rattle.sd_documents.specs.declared.error.SdError.{SdError}
use Rattle.sd_documents.specs.declared.error.SdError.TheVariants.{Shape, BadLabelName, TooMany}
use Rattle.sd_documents.specs.declared.error.Member.{Member}
use Rattle.sd_documents.specs.declared.error.Member.TheVariants.{Groups}
use Rattle.sd_documents.specs.declared.error.Limit.TheVariants.{Targets}
use Rattle.sd_documents.specs.declared.limits.TheConstants.{MOST_TARGETS}
use Rattle.sd_documents.specs.declared.group.Group.{Group}
use Rattle.sd_documents.specs.Reading.{◌>>=◌, json_said, each_said, text_said, texts_said}

-- a member that is there and not null
abbrev pub filled : Option Data → Option Data
filled None = None
filled (Some d) = if is_some (as_null d) then None else Some d

abbrev pub targets_said : ℕ → Member → Option Data → Result (List (List ℕ)) SdError
targets_said index part None = Ok []
targets_said index part (Some d) = texts_said index part d

-- One more label, the name before the text. A label with an empty text is no label.
abbrev pub label_said : ℕ → Member → LabelList → List ℕ → Data → Result LabelList SdError
label_said index part labels name d = if is_label_name name then (text_said index part d >>= λ text. Ok (with_label labels name text)) else Err BadLabelName

-- the labels in byte order
abbrev pub labels_from : ℕ → Member → LabelList → Members → Result LabelList SdError
labels_from index part labels no_members = Ok labels
labels_from index part labels (member name d ms) = label_said index part labels name d >>= λ more. labels_from index part more ms

abbrev pub labels_said : ℕ → Member → Option Data → Result LabelList SdError
labels_said index part None = Ok []
labels_said index part (Some d) = ok_or (as_object d) (Shape index part) >>= labels_from index part []

abbrev pub parts_said : ℕ → Member → Data → Result Group SdError
parts_said index part d =
    targets_said index part (filled (get (codes "targets") d)) >>= λ targets.
    labels_said index part (filled (get (codes "labels") d)) >>= λ labels.
    Ok (record { targets = targets; labels = labels })

abbrev pub group_said : ℕ → Member → Data → Result Group SdError
group_said index part d = if is_some (as_object d) then parts_said index part d else Err (Shape index part)

-- the groups, if they have not too many targets together
abbrev pub few_targets : List Group → Result (List Group) SdError
few_targets groups = if nat_le (sum_by (λ (group : Group). length group.targets) groups) MOST_TARGETS then Ok groups else Err (TooMany Targets)

abbrev pub groups_said : ℕ → Member → Data → Result (List Group) SdError
groups_said index part d = ok_or (as_array d) (Shape index part) >>= each_said (group_said index part) >>= few_targets

-- the document of a list of groups
abbrev pub groups_read : List ℕ → Result (List Group) SdError
groups_read bytes = json_said bytes >>= groups_said 0 Groups
