use Rattle.std.proofs.Common.{◌≡◌, ℕ, ◌∙◌, ◌++◌, ap, sym, List, length, take}
use Rattle.std.proofs.Math.Seq.{take-append_seam}
use Rattle.served_lists.specs.Served.{slot_served, tabulated}
use Rattle.served_lists.proofs.SlotLemmas.{fitted}
use Rattle.served_lists.proofs.slots.follow.Goals as goal

-- a slice that is written back whole
whole : (new behind : List ℕ) (n : ℕ) → length new ≡ n → take n (new ++ behind) ≡ new
whole new behind n e = ap (λ (m : ℕ). take m (new ++ behind)) (sym e) ∙ take-append_seam new behind

pub returns : goal.returns
returns c =
    let slots = c.args.slots.now.items in
    let fit = c.fit.new.slots.items in
    let new = c.hand_over.new.slots in
    let next : List ℕ → List ℕ = λ (xs : List ℕ). tabulated (slot_served c.args.known.now xs c.args.collector c.args.job c.args.targets.now) (length xs) in
    let is : new ≡ next fit = c.hand_over.ensures ∙ ap next c.as_mut_slice.ensures.value in
    whole new _ _ (c.hand_over.auto.slots ∙ c.as_mut_slice.ensures.len) ∙ fitted c.args.known.now slots fit new c.args.collector c.args.job c.args.targets.now c.fit.ensures.len c.fit.ensures.slots is
