use Rattle.std.proofs.Common.{true, ap, refl, sym, subst, ◌∙◌}
use Rattle.std.specs.Prelude.{None}
use Rattle.std.specs.Arc.{arc_value}
use Rattle.sd_routes.specs.Fields.{at_times}
use Rattle.sd_routes.specs.declared.list_head.ListHead.{ListHead}
use Rattle.sd_routes.specs.declared.responding.Said.TheVariants as said
use Rattle.sd_server.specs.Looks.{HeadIs}
use Rattle.sd_server.specs.Says.{SaysHeld}
use Rattle.sd_server.specs.Telling.{Telling}
use Rattle.sd_server.proofs.TellingLemmas.{held_with}
use Rattle.sd_server.proofs.own_list.OwnList.again.Goals as goal

pub returns-in-Ok : goal.returns-in-Ok
returns-in-Ok g c =
    let told = (arc_value c.args.self.now.told).head in
    let head = at_times c.args.times.age c.args.times.length told in
    let same : HeadIs told.collector told.allocation told.round told.left_out head = record { collector = refl; allocation = refl; round = refl; left_out = refl } in
    let Of : Telling → Type 0 = λ list. SaysHeld c.args.seen.now None c.args.place c.args.job.now c.args.name.now true (said.List list.head c.in_ok-groups.groups) in
    let timed = held_with c.args.seen.now told head same c.args.place c.args.job.now c.in_ok-groups.groups c.args.name.now (subst Of c.deref.ensures c.in_ok-groups.ensures) in
    let Heads : ListHead → Type 0 = λ written. SaysHeld c.args.seen.now None c.args.place c.args.job.now c.args.name.now true (said.List written c.in_ok-groups.groups) in
    subst Heads (sym (c.in-Ok.ensures ∙ ap (at_times c.args.times.age c.args.times.length) c.args.self.now.same)) timed
