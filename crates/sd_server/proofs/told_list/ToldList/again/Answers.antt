use Rattle.std.proofs.Common.{ℕ, List, true, refl, ap, sym, subst, ◌∙◌}
use Rattle.std.specs.Prelude.{None}
use Rattle.allocation_core.specs.State.{State}
use Rattle.sd_routes.specs.declared.list_head.ListHead.{ListHead}
use Rattle.sd_routes.specs.declared.responding.Said.TheVariants as said
use Rattle.sd_server.specs.Says.{SaysHeld}
use Rattle.sd_server.specs.Spans.{at_once}
use Rattle.sd_server.specs.Telling.{Telling}
use Rattle.sd_server.proofs.TellingLemmas.{told_now}
use Rattle.sd_server.proofs.told_list.ToldList.again.Goals as goal

pub returns-in-Ok : goal.returns-in-Ok
returns-in-Ok g c =
    let l = c.self.inside in
    let told : Telling = record { place = l.place; job = l.job; name = l.name; head = l.head; groups = l.groups; seen = l.front } in
    let is = c.self.view_is in
    let same = c.if-not-is_of.ensures refl in
    let Opened : State → Type 0 = λ opening. SaysHeld (at_once opening l.front) None l.place l.job l.name true (said.List l.head l.groups) in
    let again =
    told_now told c.args.seen.now c.args.place c.args.job.now c.args.name.now c.now.ensures.stays.begun
    (ap (λ (t : Telling). t.place) is ∙ same.0)
    (ap (λ (t : Telling). t.job) is ∙ same.1)
    (ap (λ (t : Telling). t.name) is ∙ same.2)
    (ap (λ (t : Telling). t.seen) is ∙ (c.if-not-is_of_now.ensures refl ∙ c.now.ensures.front))
    (subst Opened (sym c.now.ensures.opening) c.self.invariant)
    in
    let Groups : List ℕ → Type 0 = λ groups. SaysHeld c.args.seen.now None c.args.place c.args.job.now c.args.name.now true (said.List l.head groups) in
    let Heads : ListHead → Type 0 = λ head. SaysHeld c.args.seen.now None c.args.place c.args.job.now c.args.name.now true (said.List head c.in-Ok.groups) in
    subst Heads (ap (λ (t : Telling). t.head) is) (subst Groups (sym c.in-Ok.ensures) again)
