use Rattle.std.proofs.Common.{◌≡◌, Ok, sym, ap, ◌∙◌}
use Rattle.replay_lines.specs.Resumes.{resumed}
use Rattle.audit.specs.Checks.{first_line}
use Rattle.audit.proofs.Opened.{start_opened}
use Rattle.audit.proofs.Telling.{begins_told}
use Rattle.audit.proofs.checking.first_fault.Goals as goal

pub returns-in-Ok-Ok-clause-renewal : goal.returns-in-Ok-Ok-clause-renewal
returns-in-Ok-Ok-clause-renewal c =
    let journal = c.args.journal.now in
    let read : resumed (first_line journal) ≡ Ok c.in-Ok-Ok.start = ap resumed (sym c.first_line.ensures) ∙ sym c.in-Ok-Ok.ensures.state ∙ c.in-Ok-Ok.field-0-is in
    let is = start_opened journal c.in-Ok-Ok.start read in
    begins_told c.start_fault-fault.result c.args.core c.in-Ok-Ok.start.core journal is (c.opened_are_whole.ensures (first_line journal) c.in-Ok-Ok.start.core is) c.start_fault-fault.ensures.renewal
