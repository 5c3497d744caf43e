use Rattle.std.proofs.Common.{◌≡◌, ◌∙◌, List, ℕ, Bool, IsTrue, length, ap, sym}
use Rattle.std.proofs.lemmas.Result.{IfOk-weaker}
use Rattle.served_lists.specs.Served.{Served, with_list}
use Rattle.served_lists.proofs.SameLemmas.{SlotsStay, as_many, differs, is_number, of_number, unchanged, unmoved}
use Rattle.served_lists.proofs.served_lists.ServedLists.is_unchanged.Goals.{then-slots-known-via-then-slots-known, then-slots-known-via-else-slots-known+then-ne}
use Rattle.served_lists.proofs.served_lists.ServedLists.is_unchanged.Goals as goal

pub returns-then-slots-known-clause-changed : goal.returns-then-slots-known-clause-changed
returns-then-slots-known-clause-changed c e =
    let known = c.args.known.now in
    let served = c.args.self.now in
    let many = as_many known served c.args.collector c.args.job c.args.number c.args.held.now e in
    let one = of_number known served c.args.collector c.args.job c.args.number c.args.held.now e in
    let at : c.as_slice-slots.result.now ≡ served.slots = c.as_slice-slots.ensures.value ∙ ap (λ (s : Served). s.slots) c.self.view_is in
    elim c.then-slots-known.branch [
      | then-slots-known-via-then-slots-known w ↦ absurd (w.if-slots-known.true (ap (λ (xs : List ℕ). length xs) at ∙ many))
      | then-slots-known-via-else-slots-known+then-ne w ↦ absurd (differs w.number.result c.args.number (sym w.ne.ensures ∙ w.if-ne.true) (w.number.ensures ∙ one))
    ]

pub returns-clause-same : goal.returns-clause-same
returns-clause-same c =
    let known = c.args.known.now in
    let served = c.args.self.now in
    let slots = c.as_slice-slots.result.now in
    let at : slots ≡ served.slots = c.as_slice-slots.ensures.value ∙ ap (λ (s : Served). s.slots) c.self.view_is in
    let one = sym c.number.ensures ∙ is_number c.number.result c.args.number (sym c.ne.ensures ∙ c.if-ne.false) in
    IfOk-weaker c.slots_stay.result (λ (stay : Bool). IsTrue stay → SlotsStay known c.args.collector c.args.job c.args.held.now slots) (λ (same : Bool). IsTrue same → with_list known served c.args.collector c.args.job c.args.number c.args.held.now ≡ served)
    (λ stay f e. unchanged known served slots c.args.collector c.args.job c.args.number c.args.held.now at one (f e)) c.slots_stay.ensures.stays

pub returns-clause-changed : goal.returns-clause-changed
returns-clause-changed c =
    let known = c.args.known.now in
    let served = c.args.self.now in
    let slots = c.as_slice-slots.result.now in
    let at : slots ≡ served.slots = c.as_slice-slots.ensures.value ∙ ap (λ (s : Served). s.slots) c.self.view_is in
    IfOk-weaker c.slots_stay.result (λ (stay : Bool). SlotsStay known c.args.collector c.args.job c.args.held.now slots → IsTrue stay) (λ (same : Bool). with_list known served c.args.collector c.args.job c.args.number c.args.held.now ≡ served → IsTrue same)
    (λ stay f e. f (unmoved known served slots c.args.collector c.args.job c.args.number c.args.held.now at e)) c.slots_stay.ensures.moves
