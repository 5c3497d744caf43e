use Rattle.std.proofs.Common.{sym, ◌∙◌}
use Rattle.sd_documents.proofs.Blanks.{ends_with_blank, ends_with_other}
use Rattle.sd_documents.proofs.media.without_end.Goals as goal

pub returns-then-not-is_blank : goal.returns-then-not-is_blank
returns-then-not-is_blank c =
    ends_with_other c.loop-rest.rest.now 0 c.in-len1-up.len_at_least (sym c.is_blank.ensures ∙ c.if-not-is_blank.true) ∙ c.loop-rest.invariant

pub loop-rest-preserved : goal.loop-rest-preserved
loop-rest-preserved c =
    ends_with_blank c.loop-rest.rest.now 0 c.in-len1-up.len_at_least (sym c.is_blank.ensures ∙ c.if-not-is_blank.false) ∙ c.loop-rest.invariant
