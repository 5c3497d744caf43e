use Rattle.std.proofs.Common.{◌≡◌}
use Rattle.regex.proofs.ReplaceLemmas.{IfOk-weaker}
use Rattle.regex.specs.Patterns.{find_str}
use Rattle.regex.specs.Strings.{matcher_pattern}
use Rattle.relabel.specs.Expanding.{AreExpansions}
use Rattle.relabel.specs.Effect.{expansions}
use Rattle.relabel.proofs.Expansions.{are_written, small}
use Rattle.relabel.proofs.rule_matcher.RuleMatcher.expand.Goals as goal

pub returns-clause-value : goal.returns-clause-value
returns-clause-value c =
    let re = matcher_pattern c.self.inside.matcher in
    let rule = c.self.inside.rule.now in
    let text = c.args.text.now in
    IfOk-weaker (AreExpansions (find_str re text 0) c.target.result.now c.replacement.result.now text) (λ o. o ≡ expansions c.args.self.now text)
    (λ o h. rw (← c.self.view_is) (are_written rule re text c.target.result.now c.replacement.result.now c.self.invariant (small text (λ k. (c.type_inv.text k).fits))
    c.target.ensures c.replacement.ensures o h))
    _ c.expansions.ensures.value
