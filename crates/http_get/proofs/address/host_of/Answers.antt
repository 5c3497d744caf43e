use Rattle.std.proofs.Common.{inl, inr, true≢false, ◌∙◌, sym}
use Rattle.http_get.proofs.address.host_of.Goals as goal

pub returns-in-Err : goal.returns-in-Err
returns-in-Err c = λ h is. elim is [
  | inl local ↦ true≢false (sym (rw local.0 at c.eq.ensures) ∙ c.if-eq.false)
  | inr dotted ↦ c.in-Err.ensures.value h dotted
]
