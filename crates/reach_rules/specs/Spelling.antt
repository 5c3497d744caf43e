-- Which rules a JSON value spells: a list of objects with the members `allow`, `test`, `label` and `value`.
use Rattle.std.specs.Prelude.{◌≡◌, ℕ, Bool, List, length, nat_le, codes, Option, Some, None, Result, Ok, Err, option_map, option_and_then, if◌then◌else◌}
use Rattle.std.specs.Str.{bytes_eq}
use Rattle.std.specs.Result.{result_ok}
use Rattle.serde_json.specs.Data.{Data, Items, boolean, string, object, no_members, member}
use Rattle.serde_json.specs.Find.{get, as_bool, as_str, as_array}
use Rattle.json_values.specs.Spelling.{all_in, list_data}
use Rattle.label_sets.specs.Name.{is_label_name}
use Rattle.reach_rules.specs.declared.rule.ReachRule.{ReachRule}
use Rattle.reach_rules.specs.declared.rule.ReachTest.{ReachTest}
use Rattle.reach_rules.specs.declared.rule.ReachTest.TheVariants.{Any, Present, Equals}
use Rattle.reach_rules.specs.declared.reach.TheConstants.{MOST_RULES}
use Rattle.reach_rules.specs.declared.error.ReachError.{ReachError}
use Rattle.reach_rules.specs.declared.error.ReachError.TheVariants.{Shape, TooManyRules, Memory}

-- a member that is a text
abbrev pub text_member : List ℕ → Data → Option (List ℕ)
text_member name d = option_and_then as_str (get name d)

-- a text that is a label name
abbrev pub label_name : List ℕ → Option (List ℕ)
label_name s = if is_label_name s then Some s else None

abbrev pub label_member : Data → Option (List ℕ)
label_member d = option_and_then label_name (text_member (codes "label") d)

-- Members that the test doesn't need are ignored.
abbrev pub test_spelled : List ℕ → Data → Option ReachTest
test_spelled kind d =
    if bytes_eq kind (codes "any") then Some Any else (if bytes_eq kind (codes "present") then option_map Present (label_member d)
    else (if bytes_eq kind (codes "equals") then option_and_then (λ label. option_map (Equals label) (text_member (codes "value") d)) (label_member d) else None))

abbrev pub rule_spelled : Data → Option ReachRule
rule_spelled d =
    option_and_then (λ allow. option_and_then (λ kind. option_map (λ test. record { allow = allow; test = test }) (test_spelled kind d)) (text_member (codes "test") d))
    (option_and_then as_bool (get (codes "allow") d))

abbrev pub rules_spelled : Items → Option (List ReachRule)
rules_spelled = all_in rule_spelled

-- at most 32 rules
abbrev pub few_rules : Option (List ReachRule) → Result (List ReachRule) ReachError
few_rules None = Err Shape
few_rules (Some rules) = if nat_le (length rules) MOST_RULES then Ok rules else Err TooManyRules

abbrev pub reach_spelled : Data → Result (List ReachRule) ReachError
reach_spelled d = few_rules (option_and_then rules_spelled (as_array d))

-- the rules that a value spells, where there are not too many
abbrev pub reach_in : Data → Option (List ReachRule)
reach_in d = result_ok (reach_spelled d)

-- ---- and the one form in which each is written: members in order of their names

abbrev pub rule_data_of : Bool → ReachTest → Data
rule_data_of allow Any = object (member (codes "allow") (boolean allow) (member (codes "test") (string (codes "any")) no_members))
rule_data_of allow (Present label) = object (member (codes "allow") (boolean allow) (member (codes "label") (string label) (member (codes "test") (string (codes "present")) no_members)))
rule_data_of allow (Equals label text) =
    object (member (codes "allow") (boolean allow) (member (codes "label") (string label) (member (codes "test") (string (codes "equals")) (member (codes "value") (string text) no_members))))

abbrev pub rule_data : ReachRule → Data
rule_data rule = rule_data_of rule.allow rule.test

abbrev pub reach_data : List ReachRule → Data
reach_data = list_data rule_data

-- ---- how a part is read

-- a part is refused for its shape where nothing is spelled
abbrev pub Fails : {T : Type 0} → ReachError → Option T → Type 0
Fails Shape spelled = spelled ≡ None
Fails TooManyRules spelled = ⊥
Fails Memory spelled = Unit {0}

-- what is read is what is spelled, unless memory ran out
abbrev pub Gives : {T : Type 0} → Result T ReachError → Option T → Type 0
Gives (Ok x) spelled = spelled ≡ Some x
Gives (Err e) spelled = Fails e spelled
