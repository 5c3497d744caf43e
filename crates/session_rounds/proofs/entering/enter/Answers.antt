use Rattle.std.proofs.Common.{◌≡◌, ◌∙◌, ap, arith, refl, sym}
use Rattle.allocation_core.specs.Steps.{answer_of}
use Rattle.alloc_desk.specs.Counts.{Counts}
use Rattle.alloc_desk.specs.Reached.{IsReceipt}
use Rattle.session_rounds.proofs.StopLemmas.{told_less}
use Rattle.session_rounds.proofs.entering.enter.Goals as goal
use Rattle.session_rounds.proofs.entering.enter.Goals.{in-Not, in_default}

pub returns-then-matches-clause-stopped : goal.returns-then-matches-clause-stopped
returns-then-matches-clause-stopped g c =
    let event = c.args.event in
    let receipt = c.in_ok-receipt.receipt in
    let before = c.args.pass.now in
    let told = told_less g.N.DeskName.opening before (IsReceipt event before receipt) (λ h. receipt.answer ≡ answer_of h.state event) (λ h r. r.answer) c.in_ok-receipt.ensures.answered in
    elim c.match-matches.branch [
      | in-Not w ↦ record {
        event = event;
        entered = refl;
        reason = w.in-Not.field-0;
        refused = w.in-Not.is;
        before = before;
        since = omega arith;
        last = ap (λ (p : Counts). p.calls) c.in_ok-receipt.ensures.counts;
        told = told;
      }
      | in_default w ↦ let clash = sym w.matches-is ∙ c.if-matches.true in absurd (cc)
    ]
