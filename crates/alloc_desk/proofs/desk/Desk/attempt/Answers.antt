use Rattle.std.proofs.Common.{◌+◌, subst}
use Rattle.price_certificate.specs.declared.plan.Plan.{Plan}
use Rattle.fleet_events.specs.declared.event.Event.TheVariants.{Install}
use Rattle.alloc_desk.specs.Counts.{Counts}
use Rattle.alloc_desk.specs.Reallocating.{EndsIn}
use Rattle.alloc_desk.proofs.AttemptLemmas.{ends_in, came_to}
use Rattle.alloc_desk.proofs.desk.Desk.attempt.Goals as goal

pub attempted-requires : goal.attempted-requires
attempted-requires g c =
    let told = c.in-Ok-submit.ensures.answered in
    rw told.holds.answer (c.answers_fit.ensures told.history.state (Install c.in-Ok-plan_for.twin))

pub returns-in-Ok-submit-clause-came_to : goal.returns-in-Ok-submit-clause-came_to
returns-in-Ok-submit-clause-came_to g c =
    let opening = g.N.DeskName.opening in
    let told = c.in-Ok-submit.ensures.answered in
    let receipt = c.in-Ok-submit.receipt in
    let P : Plan → Type 0 = λ plan. EndsIn opening (c.instance.new.pass.calls + 1) (Install plan) receipt.answer in
    let Q : Counts → Type 0 = λ counts. EndsIn opening (counts.calls + 1) (Install c.in-Ok-plan_for.plan) receipt.answer in
    let e = subst Q c.in-Ok.ensures.same (subst P c.in-Ok-plan_for.ensures.copy (ends_in opening c.instance.new.pass (Install c.in-Ok-plan_for.twin) receipt told)) in
    rw c.attempted.ensures
    (came_to opening c.args.pass.now c.in-Ok.instance c.in-Ok-plan_for.plan receipt.answer c.in-Ok.ensures.read c.in-Ok-plan_for.ensures.certified (rw told.holds.answer (c.answers_fit.ensures told.history.state (Install c.in-Ok-plan_for.twin))) e)
