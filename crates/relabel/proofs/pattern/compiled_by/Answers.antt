use Rattle.relabel.specs.Patterns.{FindsAs, names_in, whole_form}
use Rattle.relabel.specs.Compiling.{IsFormOf}
use Rattle.std.proofs.Common.{◌≡◌, rules}
use Rattle.regex.specs.Strings.{regex_pattern, regex_names}
use Rattle.regex.proofs.ReplaceLemmas.{IfOk-weaker}
use Rattle.relabel.proofs.Forms.{whole_finds, whole_names}
use Rattle.relabel.proofs.pattern.compiled_by.Goals as goal

pub returns-clause-form : goal.returns-clause-form
returns-clause-form g c = IfOk-weaker (IsFormOf (whole_form c.args.pattern.now)) (λ r. FindsAs c.args.pattern.now (regex_pattern r)) (λ r. whole_finds c.args.pattern.now r) _ (search rules)

pub returns-clause-names : goal.returns-clause-names
returns-clause-names g c = IfOk-weaker (IsFormOf (whole_form c.args.pattern.now)) (λ r. regex_names r ≡ names_in c.args.pattern.now) (λ r. whole_names c.args.pattern.now r) _ (search rules)
