use Rattle.std.proofs.Common.{◌≡◌, ℕ, List, Ok, IfOk, ap, subst, sym, ◌∙◌}
use Rattle.replay_lines.specs.Resumes.{resumed}
use Rattle.durable_journal.specs.ByHand.{IsSealedFrom}
use Rattle.durable_journal.proofs.Noted.{all_by_hand}
use Rattle.durable_journal.proofs.by_hand.sealed_by_hand.Goals as goal

pub returns-in-Ok : goal.returns-in-Ok
returns-in-Ok c =
    let read : resumed c.as_slice.result.now ≡ Ok c.in-Ok.resumption = sym c.in_ok-resumption.ensures.state ∙ c.in-Ok.is in
    all_by_hand c.args.journal.now c.in_ok-plain.plain c.in-Ok.resumption c.sealed_anew.result c.in_ok-plain.ensures (ap resumed (sym c.as_slice.ensures) ∙ read) (subst (λ (t : List ℕ). IfOk c.sealed_anew.result (λ q. IfOk q (λ bytes. IsSealedFrom t bytes))) c.as_slice-in-Ok.ensures c.sealed_anew.ensures)
