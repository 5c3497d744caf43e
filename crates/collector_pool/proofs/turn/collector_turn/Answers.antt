use Rattle.std.proofs.Common.{◌≡◌, ◌+◌, ◌∙◌, ℕ, List, ap, arith, inl, subst, sym}
use Rattle.fleet_events.specs.declared.event.Event.TheVariants.{Take}
use Rattle.fleet_events.specs.declared.answer.Answer.{Answer}
use Rattle.fleet_events.specs.declared.answer.Answer.TheVariants.{Taken}
use Rattle.allocation_core.specs.Steps.{answer_of}
use Rattle.alloc_desk.specs.Counts.{Counts}
use Rattle.alloc_desk.specs.History.{History}
use Rattle.alloc_desk.specs.Reached.{IsReceipt, Reached}
use Rattle.collector_pool.specs.Turns.{Worked, after_take}
use Rattle.collector_pool.proofs.VisitLemmas.{told_so}
use Rattle.collector_pool.proofs.turn.collector_turn.Goals as goal

pub returns-in-Taken-clause-turned : goal.returns-in-Taken-clause-turned
returns-in-Taken-clause-turned g c =
    let opening = g.N.DeskName.opening in
    let counts = c.args.pass.now in
    let turn = c.visit_all.result in
    let Says : Answer → History → Type 0 = λ a h. a ≡ answer_of h.state (Take c.args.id) in
    let told = told_so opening counts (IsReceipt (Take c.args.id) counts c.in-Ok.receipt) (Says c.in-Ok.receipt.answer) (λ h r. r.answer) c.in-Ok.ensures.answered in
    let T : Answer → Type 0 = λ a. Reached opening counts (Says a) in
    let by_number : ℕ → Answer = λ n. Taken n c.in-Taken.round c.in-Taken.held in
    let by_held : List ℕ → Answer = λ l. Taken turn.number c.in-Taken.round l in
    let numbered : c.in-Ok.receipt.answer ≡ by_number turn.number =
    c.in-Taken.is ∙ ap by_number (sym c.visit_all.ensures.number)
    in
    let is : c.in-Ok.receipt.answer ≡ by_held c.as_slice.result.now = numbered ∙ ap by_held (sym c.as_slice.ensures) in
    let with_booked : ℕ → Counts = λ n. record { seat = counts.seat; calls = counts.calls + 1; booked = n } in
    let none : counts.booked + 0 ≡ counts.booked = omega arith in
    let after : c.submit.new.pass ≡ after_take counts = c.in-Ok.ensures.counts ∙ ap with_booked none in
    let W : Counts → Type 0 = λ p. Worked g.S.Scrape.may_fetch opening p c.args.jobs.now c.args.id c.in-Taken.round c.as_slice.result.now c.args.scrape.now c.visit_all.new.scrape turn in
    let calls = ap (λ (p : Counts). p.calls) after in
    inl (record {
      round = c.in-Taken.round;
      held = c.as_slice.result.now;
      taken = subst T is told;
      worked = subst W after c.visit_all.ensures.worked;
      calls = omega (arith, calls, c.visit_all.ensures.calls);
    })
