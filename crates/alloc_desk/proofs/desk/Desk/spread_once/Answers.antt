use Rattle.std.proofs.Common.{◌≡◌, ◌+◌, ℕ, subst}
use Rattle.price_certificate.specs.Problem.{Problem}
use Rattle.fleet_events.specs.declared.event.Event.TheVariants.{Spread}
use Rattle.alloc_desk.specs.Counts.{Counts}
use Rattle.alloc_desk.specs.Reallocating.{EndsIn}
use Rattle.alloc_desk.proofs.AttemptLemmas.{ends_in, came_to_spread}
use Rattle.alloc_desk.proofs.desk.Desk.spread_once.Goals as goal

pub spread_attempted-requires : goal.spread_attempted-requires
spread_attempted-requires g c =
    let told = c.in_ok-receipt.ensures.answered in
    rw told.holds.answer (c.answers_fit.ensures told.history.state (Spread c.in-Ok-spread_for.spread))

pub returns-clause-came_to : goal.returns-clause-came_to
returns-clause-came_to g c =
    let opening = g.N.DeskName.opening in
    let told = c.in_ok-receipt.ensures.answered in
    let receipt = c.in_ok-receipt.receipt in
    let question : Problem × ℕ = (c.in-Ok.instance, c.in-Ok.jobs) in
    let Q : Counts → Type 0 = λ counts. EndsIn opening (counts.calls + 1) (Spread c.in-Ok-spread_for.spread) receipt.answer in
    let answered = subst Q c.in-Ok.ensures.same (ends_in opening c.question.new.pass (Spread c.in-Ok-spread_for.spread) receipt told) in
    rw c.spread_attempted.ensures
    (came_to_spread opening c.args.pass.now c.args.slack c.args.most_moves question c.in-Ok-spread_for.spread receipt.answer (rw told.holds.answer (c.answers_fit.ensures told.history.state (Spread c.in-Ok-spread_for.spread)))
    (record { searched = c.in-Ok.ensures.read; found = c.in-Ok-spread_for.ensures; answered = answered }))
