use Rattle.std.proofs.Common.{◌≡◌, ◌<◌, true, ap, arith, sym, ◌∙◌}
use Rattle.handover.specs.Handover.{taken_by}
use Rattle.fleet.specs.Fleet.{is_joined}
use Rattle.fleet_events.specs.declared.answer.Answer.{Answer}
use Rattle.fleet_events.specs.declared.answer.Answer.TheVariants.{Taken}
use Rattle.allocation_core.specs.State.{State, current_of, held_by}
use Rattle.allocation_core.proofs.IdleLemmas.{take_idle}
use Rattle.allocation_core.proofs.machine.Core.taken_again.Goals as goal

pub returns : goal.returns
returns c =
    let m = c.args.self.now in
    let joined : is_joined m.fleet c.args.id ≡ true = ap (λ (n : State). is_joined n.fleet c.args.id) (sym c.self.view_is) ∙ sym c.if-not-is_joined.ensures in
    let number : c.current-allocation.result ≡ current_of m = c.current-allocation.ensures ∙ ap (λ (n : State). current_of n) c.self.view_is in
    let some : 0 < c.current-allocation.result = omega (arith, c.if-allocation-eq0.false) in
    let taken : taken_by m.taken c.args.id ≡ c.current-allocation.result = ap (λ (n : State). taken_by n.taken c.args.id) (sym c.self.view_is) ∙ sym c.taken.ensures ∙ c.if-taken-allocation.false in
    take_idle m c.args.id _ joined (omega (arith, some, number)) (taken ∙ number)
    ((λ i. (let a : Answer = Taken (number i) c.self.inside.round (c.in_ok-held.ensures i) in a)) ∙ ap (λ (n : State). (let a : Answer = Taken (current_of m) n.round (held_by m c.args.id) in a)) c.self.view_is)
