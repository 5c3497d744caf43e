-- What `allocd relabel` answers.
use Rattle.std.specs.Prelude.{◌≡◌, ◌≢◌, ◌++◌, ◌&&◌, ◌⊎◌, ℕ, List, [], Bool, true, Option, Some, None, Ok, option_and_then, is_some, unwrap_or, codes, if◌then◌else◌}
use Rattle.std.specs.Fmt.{decimal}
use Rattle.serde_json.specs.Data.{Data, Items, Members, no_members, member}
use Rattle.serde_json.specs.Find.{as_str, as_array, as_object}
use Rattle.json_values.specs.Spelling.{member_in}
use Rattle.json_values.specs.Texts.{json_of}
use Rattle.label_sets.specs.Name.{is_label_name}
use Rattle.label_sets.specs.Labels.{LabelList, with_label}
use Rattle.label_sets.specs.Written.{labels_text}
use Rattle.label_sets.specs.Target.{target_text}
use Rattle.label_sets.specs.Finish.{finished}
use Rattle.label_sets.specs.declared.target.Finished.{Finished}
use Rattle.label_sets.specs.declared.target.Finished.TheVariants.{Target, NoAddress}
use Rattle.relabel.specs.Applying.{rules_said, IsRefusedFrom, relabelled}
use Rattle.relabel.specs.Names.{rule_error_name}
use Rattle.relabel.specs.declared.error.RuleError.TheVariants as rule
use Rattle.relabel.specs.declared.error.RulesError.{RulesError}
use Rattle.relabel.specs.declared.rule.RuleSettings.{RuleSettings}
use Rattle.relabel.specs.declared.rules.Relabelled.{Relabelled}
use Rattle.relabel.specs.declared.rules.Relabelled.TheVariants as rules
use Rattle.offline_commands.specs.Answer.{Answers}
use Rattle.offline_commands.specs.declared.answer.Answer.{Answer}
use Rattle.offline_commands.specs.declared.answer.Answer.TheVariants.{NotRead, Text}
use Rattle.offline_commands.specs.declared.ending.Status.{Status}
use Rattle.offline_commands.specs.declared.ending.Status.TheVariants.{Done, Refused}
use Rattle.offline_commands.specs.declared.unreadable.Unreadable.TheVariants.{NotJson, Shape}
use Rattle.offline_commands.specs.declared.relabelling.Finding.{Finding}
use Rattle.offline_commands.specs.declared.relabelling.Finding.TheVariants.{BadLabelName, RefusedRule, Kept, Dropped}

-- ---- documents

-- labels, each with a text, and rules
pub record Document : Type 0 where
  pub labels : Members
  pub rules : Items

abbrev pub are_texts : Members → Bool
are_texts no_members = true
are_texts (member name d more) = is_some (as_str d) && are_texts more

abbrev pub with_texts : Members → Items → Option Document
with_texts labels rules = if are_texts labels then Some (record { labels = labels; rules = rules }) else None

-- an object with both members; others don't matter
abbrev pub document_in : Data → Option Document
document_in d =
    option_and_then (λ labels. option_and_then (with_texts labels) (member_in as_array (codes "relabel_configs") d))
    (member_in as_object (codes "labels") d)

-- ---- findings

-- These labels and more of them, unless one has no label name. A label with an empty text is no label.
abbrev pub labels_from : LabelList → Members → Option LabelList
labels_from labels no_members = Some labels
labels_from labels (member name d more) = if is_label_name name then labels_from (with_label labels name (unwrap_or (as_str d) [])) more else None

abbrev pub labels_in : Members → Option LabelList
labels_in = labels_from []

abbrev pub finished_text : Finished → Option (List ℕ)
finished_text (Target target) = Some (target_text target)
finished_text NoAddress = None

-- what is found in the labels behind the rules
abbrev pub finding_of : Relabelled → Finding
finding_of (rules.Kept labels) = Kept (labels_text labels) (finished_text (finished labels))
finding_of (rules.Dropped number) = Dropped number

-- a rule is refused; of a pattern that the grammar reads the compiler may say that it is too big
pub record IsRefusal (too_big : List ℕ → Bool) (items : Items) (finding : Finding) : Type 0 where
  pub refused : RulesError
  pub cause : refused.error ≢ rule.Memory
  pub read : IsRefusedFrom too_big 1 items refused
  pub says : finding ≡ RefusedRule refused.number refused.error

-- all rules are read, and then applied
pub record IsRelabelled (labels : LabelList) (items : Items) (finding : Finding) : Type 0 where
  pub settings : List RuleSettings
  pub read : rules_said items ≡ Ok settings
  pub says : finding ≡ finding_of (relabelled settings labels)

-- ---- texts

abbrev pub target_line : Option (List ℕ) → List ℕ
target_line (Some text) = codes "target " ++ (text ++ codes "\n")
target_line None = codes "no address\n"

abbrev pub finding_text : Finding → List ℕ
finding_text BadLabelName = codes "refused BadLabelName\n"
finding_text (RefusedRule number error) = codes "refused " ++ (decimal number ++ (codes " " ++ (rule_error_name error ++ codes "\n")))
finding_text (Kept labels target) = codes "kept " ++ (labels ++ (codes "\n" ++ target_line target))
finding_text (Dropped number) = codes "dropped " ++ (decimal number ++ codes "\n")

abbrev pub finding_status : Finding → Status
finding_status BadLabelName = Refused
finding_status (RefusedRule number error) = Refused
finding_status (Kept labels target) = Done
finding_status (Dropped number) = Done

abbrev pub told : Finding → Answer
told finding = Text (finding_text finding) (finding_status finding)

-- ---- answers

module _ (too_big : List ℕ → Bool) where
  -- the names are looked at before the rules
  abbrev pub IsFinding : Option LabelList → Items → Finding → Type 0
  IsFinding None items finding = finding ≡ BadLabelName
  IsFinding (Some labels) items finding = IsRefusal too_big items finding ⊎ IsRelabelled labels items finding

  -- what is found, where there is a document
  abbrev pub IsFound : Option Document → Option Finding → Type 0
  IsFound None found = found ≡ None
  IsFound (Some document) found = (finding : Finding) × (found ≡ Some finding) × IsFinding (labels_in document.labels) document.rules finding

  abbrev pub IsAnswerIn : Option Document → Answer → Type 0
  IsAnswerIn None answer = answer ≡ NotRead Shape
  IsAnswerIn (Some document) answer = (finding : Finding) × (answer ≡ told finding) × IsFinding (labels_in document.labels) document.rules finding

  abbrev pub IsAnswerOf : Option Data → Answer → Type 0
  IsAnswerOf None answer = answer ≡ NotRead NotJson
  IsAnswerOf (Some d) answer = IsAnswerIn (document_in d) answer

  abbrev pub Relabels : Answers
  Relabels input answer = IsAnswerOf (json_of input) answer
