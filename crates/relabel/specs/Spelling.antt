-- Which rule a JSON value spells: an entry of Prometheus's `relabel_configs`, in JSON. Members that are absent have
-- their defaults, null is a value of another kind, and other members don't matter.
use Rattle.std.specs.Prelude.{ℕ, List, [], ◌∷◌, Bool, true, false, not, ◌&&◌, ◌||◌, ◌==◌, Option, Some, None, unwrap_or, option_and_then, Result, Ok, Err, is_some, codes, if◌then◌else◌}
use Rattle.std.specs.Option.{ok_or, option_map_or}
use Rattle.std.specs.Str.{bytes_eq, str_eq_ignore_ascii_case}
use Rattle.serde_json.specs.Data.{Data, Items, no_items, item}
use Rattle.serde_json.specs.Find.{get, as_str, as_array, as_object, as_number, as_u64}
use Rattle.label_sets.specs.Name.{is_label_name}
use Rattle.relabel.specs.declared.error.RuleError.{RuleError}
use Rattle.relabel.specs.declared.error.RuleError.TheVariants.{Shape, UnknownAction, NoTargetLabel, ZeroModulus, BadPattern}
use Rattle.relabel.specs.declared.action.Action.{Action}
use Rattle.relabel.specs.declared.action.Action.TheVariants.{Replace, Keep, Drop, KeepEqual, DropEqual, HashMod, LabelMap, LabelDrop, LabelKeep}
use Rattle.relabel.specs.declared.rule.RuleSettings.{RuleSettings}
use Rattle.relabel.specs.declared.fields.Fields.{Fields}
use Rattle.relabel.specs.Reading.{◌>>=◌}
use Rattle.relabel.specs.Patterns.{is_pattern}

-- ---- the members, each by its shape

-- a text that is a label name
abbrev pub label_name_said : Data → Option (List ℕ)
label_name_said d = option_and_then (λ name. if is_label_name name then Some name else None) (as_str d)

abbrev pub label_names_from : Items → Result (List (List ℕ)) RuleError
label_names_from no_items = Ok []
label_names_from (item d ds) = ok_or (label_name_said d) Shape >>= λ name. label_names_from ds >>= λ names. Ok (name ∷ names)

abbrev pub source_labels_said : Option Data → Result (List (List ℕ)) RuleError
source_labels_said None = Ok []
source_labels_said (Some d) = ok_or (as_array d) Shape >>= label_names_from

abbrev pub text_or : List ℕ → Option Data → Result (List ℕ) RuleError
text_or default None = Ok default
text_or default (Some d) = ok_or (as_str d) Shape

abbrev pub target_label_said : Option Data → Result (Option (List ℕ)) RuleError
target_label_said None = Ok None
target_label_said (Some d) = ok_or (as_str d) Shape >>= λ text. Ok (Some text)

-- a whole number below 2 ^ 64
abbrev pub modulus_said : Option Data → Result ℕ RuleError
modulus_said None = Ok 0
modulus_said (Some d) = ok_or (option_and_then as_u64 (as_number d)) Shape

unfoldable pub fields_from : Data → Result Fields RuleError
fields_from d =
    source_labels_said (get (codes "source_labels") d) >>= λ source_labels.
    text_or (codes ";") (get (codes "separator") d) >>= λ separator.
    target_label_said (get (codes "target_label") d) >>= λ target_label.
    text_or (codes "(.*)") (get (codes "regex") d) >>= λ pattern.
    modulus_said (get (codes "modulus") d) >>= λ modulus.
    text_or (codes "$1") (get (codes "replacement") d) >>= λ replacement.
    text_or (codes "replace") (get (codes "action") d) >>= λ action.
    Ok (record { source_labels = source_labels; separator = separator; target_label = target_label; pattern = pattern; modulus = modulus; replacement = replacement; action = action })

abbrev pub fields_said : Data → Result Fields RuleError
fields_said d = if is_some (as_object d) then fields_from d else Err Shape

-- ---- the action

-- the action of a name, in any case of ASCII
unfoldable pub action_named : List ℕ → Option Action
action_named name =
    if str_eq_ignore_ascii_case name (codes "replace") then Some Replace
    else if str_eq_ignore_ascii_case name (codes "keep") then Some Keep
    else if str_eq_ignore_ascii_case name (codes "drop") then Some Drop
    else if str_eq_ignore_ascii_case name (codes "keepequal") then Some KeepEqual
    else if str_eq_ignore_ascii_case name (codes "dropequal") then Some DropEqual
    else if str_eq_ignore_ascii_case name (codes "hashmod") then Some HashMod
    else if str_eq_ignore_ascii_case name (codes "labelmap") then Some LabelMap
    else if str_eq_ignore_ascii_case name (codes "labeldrop") then Some LabelDrop
    else if str_eq_ignore_ascii_case name (codes "labelkeep") then Some LabelKeep
    else None

-- the target label of these actions is no template
abbrev pub names_its_target : Action → Bool
names_its_target KeepEqual = true
names_its_target DropEqual = true
names_its_target HashMod = true
names_its_target _ = false

abbrev pub needs_target : Action → Bool
needs_target Replace = true
needs_target KeepEqual = true
needs_target DropEqual = true
needs_target HashMod = true
needs_target _ = false

abbrev pub is_hash_mod : Action → Bool
is_hash_mod HashMod = true
is_hash_mod _ = false

-- where the action wants a label name, the target label is one or is absent
abbrev pub has_fit_target : Option Action → Option (List ℕ) → Bool
has_fit_target None target_label = true
has_fit_target (Some action) target_label = not (names_its_target action) || option_map_or is_label_name target_label true

-- ---- rules

-- a target label and a modulus, where the action needs them
abbrev pub settings_for : Fields → Action → Result RuleSettings RuleError
settings_for f action =
    if needs_target action && bytes_eq (unwrap_or f.target_label []) [] then Err NoTargetLabel
    else if is_hash_mod action && f.modulus == 0 then Err ZeroModulus
    else Ok (record { source_labels = f.source_labels; separator = f.separator; target_label = unwrap_or f.target_label []; pattern = f.pattern; modulus = f.modulus; replacement = f.replacement; action = action })

unfoldable pub settings_of : Fields → Result RuleSettings RuleError
settings_of f =
    if has_fit_target (action_named f.action) f.target_label then (ok_or (action_named f.action) UnknownAction >>= settings_for f)
    else Err Shape

abbrev pub settings_said : Data → Result RuleSettings RuleError
settings_said d = fields_said d >>= settings_of

abbrev pub with_pattern : RuleSettings → Result RuleSettings RuleError
with_pattern settings = if is_pattern settings.pattern then Ok settings else Err BadPattern

-- the shape, then the action, its target label and its modulus, and then the pattern
abbrev pub rule_said : Data → Result RuleSettings RuleError
rule_said d = settings_said d >>= with_pattern

-- what holds of every rule that is read: the target of a hash is a label name, and its modulus is not 0
abbrev pub is_fit : RuleSettings → Bool
is_fit rule = not (is_hash_mod rule.action) || (is_label_name rule.target_label && not (rule.modulus == 0))
