use Rattle.std.proofs.Common.{inl, inr, refl}
use Rattle.agent_turns.proofs.reporting.report.Goals as goal

pub returns-in-Some : goal.returns-in-Some
returns-in-Some g c = inr (c.now-now.result, c.in-Some.said.entries, c.in-Some.lasts.entries, c.report_all.ensures)

pub returns-in-None : goal.returns-in-None
returns-in-None g c = inl (refl, refl)
