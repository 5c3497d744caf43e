-- The refusals of rules by name.
use Rattle.std.specs.Prelude.{ℕ, List, codes}
use Rattle.relabel.specs.declared.error.RuleError.{RuleError}
use Rattle.relabel.specs.declared.error.RuleError.TheVariants.{Shape, UnknownAction, NoTargetLabel, ZeroModulus, BadPattern, Memory}

abbrev pub rule_error_name : RuleError → List ℕ
rule_error_name Shape = codes "Shape"
rule_error_name UnknownAction = codes "UnknownAction"
rule_error_name NoTargetLabel = codes "NoTargetLabel"
rule_error_name ZeroModulus = codes "ZeroModulus"
rule_error_name BadPattern = codes "BadPattern"
rule_error_name Memory = codes "Memory"
