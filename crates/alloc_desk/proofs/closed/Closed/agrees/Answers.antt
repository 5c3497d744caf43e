use Rattle.std.proofs.Common.{ap, ◌∙◌}
use Rattle.alloc_desk.specs.Receipts.{told_from}
use Rattle.alloc_desk.proofs.ReceiptLemmas.{told_history}
use Rattle.alloc_desk.proofs.closed.Closed.agrees.Goals as goal

pub returns-clause-history : goal.returns-clause-history
returns-clause-history g c = λ t.
    told_history g.N.DeskName.opening c.self.inside.record.journal c.self.inside.record.state c.args.receipts.now c.self.invariant.0
    (c.are_told.ensures.0 t ∙ ap (told_from 0) c.journal.ensures)
