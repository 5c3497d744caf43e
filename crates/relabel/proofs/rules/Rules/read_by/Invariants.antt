use Rattle.std.proofs.Common.{◌≡◌, ◌++◌, ◌+◌, drop, Ok, All}
use Rattle.serde_json.specs.View.{items_view}
use Rattle.relabel.specs.Compiling.{AreTaken}
use Rattle.relabel.specs.declared.error.RulesError.{RulesError}
use Rattle.relabel.specs.declared.rule.RuleSettings.{RuleSettings}
use Rattle.relabel.specs.Reading.{◌>>=◌}
use Rattle.relabel.specs.Applying.{rules_said, IsRefusedFrom}
use Rattle.relabel.proofs.rules.Rules.read_by.Given as goal

abbrev pub invariant-loop-index : goal.invariant-loop-index
invariant-loop-index g l = record {
  rules : rules_said (items_view (drop l.index l.values)) >>= (λ rules. Ok (l.rules ++ rules)) ≡ rules_said (items_view l.values);
  taken : All (λ (rule : RuleSettings). AreTaken g.C.Compiler.taken rule.pattern) l.rules;
  refused : (e : RulesError) → IsRefusedFrom g.C.Compiler.too_big (l.index + 1) (items_view (drop l.index l.values)) e → IsRefusedFrom g.C.Compiler.too_big 1 (items_view l.values) e;
}
