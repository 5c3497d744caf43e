use Rattle.std.proofs.Common.{◌∙◌}
use Rattle.journal_entries.specs.Legal.{events_in}
use Rattle.session_command.proofs.one_desk.closed.Goals as goal

pub returns-in-Ok : goal.returns-in-Ok
returns-in-Ok g c = (events_in c.in-Ok.closed.journal, c.into_core.ensures ∙ c.in-Ok.ensures.legal.state)
