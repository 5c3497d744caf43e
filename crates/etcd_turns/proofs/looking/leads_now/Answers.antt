use Rattle.std.proofs.Common.{◌∙◌}
use Rattle.etcd_turns.proofs.Looks.{led}
use Rattle.etcd_turns.proofs.looking.leads_now.Goals as goal

pub returns : goal.returns
returns g c = λ kept. led g.E.Etcd.may_post _ _ _ _ _ _ _ _ _ c.in_ok-answer.ensures (c.as_bytes.ensures.value ∙ c.as_str.ensures ∙ c.in_ok-body.ensures) c.in_ok-verdict.ensures kept
