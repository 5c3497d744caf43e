use Rattle.std.proofs.Common.{inl, inr, refl}
use Rattle.agent_turns.proofs.turning.take.Goals as goal

pub returns-then-not-is_due : goal.returns-then-not-is_due
returns-then-not-is_due g c = inl (refl, refl)

pub returns : goal.returns
returns g c = inr (c.take_at.ensures.act, (c.now-at.result, c.take_at.ensures.state))
