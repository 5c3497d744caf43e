use Rattle.std.proofs.Common.{◌<◌, ◌∙◌, ℕ, List, All, length, sym, ap, subst, arith}
use Rattle.served_lists.specs.Served.{Served, listed_of, slot_served, tabulated}
use Rattle.served_lists.proofs.SlotLemmas.{length-tabulated, listed_known, with_list_is}
use Rattle.served_lists.proofs.served_lists.ServedLists.serve.Goals as goal

pub follow-requires-clause-within : goal.follow-requires-clause-within
follow-requires-clause-within c =
    subst (λ (ts : List ℕ). All (λ (t : ℕ). t < length c.args.known.now) ts) (sym (c.as_slice-targets.ensures ∙ c.in_ok-list.ensures.listed)) (listed_known c.args.known.now c.as_slice-slots.result.now c.args.collector c.args.job c.args.held.now)

pub invariant_of-self-2 : goal.invariant_of-self-2
invariant_of-self-2 c =
    let most = c.requires in
    omega (arith, most, ap (λ (xs : List ℕ). length xs) c.follow.ensures, length-tabulated (slot_served c.args.known.now c.make_room.new.slots.items c.args.collector c.args.job c.as_slice-targets.result.now) (length c.args.known.now))

pub returns-clause-state : goal.returns-clause-state
returns-clause-state c =
    let known = c.args.known.now in
    let targets : List ℕ = c.as_slice-targets.result.now in
    let seen : Served = record { slots = c.self.inside.slots.items; numbers = c.self.inside.numbers.entries } in
    let new : Served = record { slots = c.follow.new.slots.items; numbers = c.set_number.new.numbers.entries } in
    with_list_is known seen c.args.self.now new c.args.collector c.args.job c.args.number c.args.held.now targets c.self.view_is
    (c.as_slice-targets.ensures ∙ c.in_ok-list.ensures.listed ∙ ap (λ (xs : List ℕ). listed_of known xs c.args.collector c.args.job c.args.held.now) c.as_slice-slots.ensures.value)
    (c.follow.ensures ∙ ap (λ (xs : List ℕ). tabulated (slot_served known xs c.args.collector c.args.job targets) (length known)) c.make_room.ensures.items) c.in_ok-set_number.ensures.ok
