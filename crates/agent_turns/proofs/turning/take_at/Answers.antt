use Rattle.agent_turns.specs.declared.outside.Heard.TheVariants as heard
use Rattle.agent_turns.proofs.turning.take_at.Goals as goal

pub returns-in-Ok-clause-state : goal.returns-in-Ok-clause-state
returns-in-Ok-clause-state g c = (c.take-heard.result, c.in-Ok.ensures.ok)

pub returns-in-Err-clause-state : goal.returns-in-Err-clause-state
returns-in-Err-clause-state g c = (heard.Nothing, c.in-Err.ensures.err)
