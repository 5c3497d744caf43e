use Rattle.std.proofs.Common.{◌≡◌, refl, sym, inl, inr}
use Rattle.std.specs.Prelude.{Some, None}
use Rattle.fleet.specs.Fleet.{id_named}
use Rattle.alloc_desk.specs.History.{History}
use Rattle.sd_server.specs.Says.{SaysHeld}
use Rattle.sd_server.proofs.SpanLemmas.{some_now, some_then}
use Rattle.sd_server.proofs.handler.Handler.looked.Goals as goal

pub returns-in-Some-clause-says : goal.returns-in-Some-clause-says
unfolding SaysHeld
returns-in-Some-clause-says g c =
    let P : History → Type 0 = λ h. id_named h.state.fleet.collectors c.args.name.now ≡ Some c.in-Some.id in
    inr (c.in-Some.id, some_then c.args.seen.now c.named.new.seen c.look.new.seen P c.named.ensures.moves c.look.ensures.moves (sym c.in-Some.ensures.read), c.look.ensures.says)

pub returns-in-None-clause-says : goal.returns-in-None-clause-says
unfolding SaysHeld
returns-in-None-clause-says g c =
    let P : History → Type 0 = λ h. id_named h.state.fleet.collectors c.args.name.now ≡ None in
    inl (some_now c.args.seen.now c.named.new.seen P c.named.ensures.moves (sym c.in-None.ensures.read), inr (inl refl))

pub returns-in-None-2-clause-says : goal.returns-in-None-2-clause-says
unfolding SaysHeld
returns-in-None-2-clause-says g c =
    let P : History → Type 0 = λ h. id_named h.state.fleet.collectors c.args.name.now ≡ None in
    inl (some_now c.args.seen.now c.named.new.seen P c.named.ensures.moves (sym c.in-None-2.ensures.read), inl refl)
