use Rattle.std.proofs.Common.{IsUtf8, ap, subst, ◌∙◌}
use Rattle.label_sets.specs.Target.{target_text}
use Rattle.label_sets.specs.declared.target.Parts.{Parts}
use Rattle.label_sets.proofs.Identity.{target_tokens}
use Rattle.label_sets.proofs.ReadBack.{target_reads}
use Rattle.label_sets.proofs.target.Target.text.Goals as goal

pub returns-clause-utf8 : goal.returns-clause-utf8
returns-clause-utf8 c = subst IsUtf8 (c.as_str.ensures ∙ ap (λ (parts : Parts). parts.text) c.deref.ensures ∙ c.self.invariant.0 ∙ ap target_text c.self.view_is) c.as_str.utf8

pub returns-clause-tokens : goal.returns-clause-tokens
returns-clause-tokens c = target_tokens c.args.self.now

pub returns-clause-reads : goal.returns-clause-reads
returns-clause-reads c = rw (← c.self.view_is) (target_reads _ c.self.invariant.1.labels.ordered)
