use Rattle.std.proofs.Common.{ap, sym, ◌∙◌}
use Rattle.fleet.specs.Fleet.{is_joined}
use Rattle.allocation_core.specs.State.{State}
use Rattle.allocation_core.proofs.BookedLemmas.{booked_answer}
use Rattle.allocation_core.proofs.machine.Core.report.Goals.{in-Ok, in-Err}
use Rattle.allocation_core.proofs.machine.Core.report.Goals as goal

pub returns-clause-answer : goal.returns-clause-answer
returns-clause-answer c =
    let joined = ap (λ (m : State). is_joined m.fleet c.args.report.collector) (sym c.self.view_is) ∙ sym c.if-not-is_joined.ensures in
    elim c.match-book.branch [
      | in-Ok w ↦ rw w.result-is (booked_answer c.args.self.now c.args.report.collector c.args.report.allocation c.args.report.target c.args.report.round c.args.report.outcome joined (sym c.in_default.ensures))
      | in-Err w ↦ rw w.result-is tt
    ]
