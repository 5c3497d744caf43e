use Rattle.std.proofs.Common.{◌≡◌, ℕ, Bool, List, length, take, drop, ◌++◌, not, ap, ◌∙◌, subst, arith}
use Rattle.std.specs.Prelude.{count_by}
use Rattle.std.proofs.lemmas.List.{take_all, take-append-le}
use Rattle.fleet.specs.Fleet.{is_live, live_of}
use Rattle.fleet_renewal.specs.Renewed.{is_held}
use Rattle.audit.specs.Marks.{TakesMarks}
use Rattle.audit.specs.Tallies.{uncovered}
use Rattle.audit.proofs.Tallying.{left_are}
use Rattle.audit.proofs.uncovered.uncovered.Goals as goal

written : (old new : List Bool) (n : ℕ) → length new ≡ n → take n (new ++ drop (length new) old) ≡ new
written old new n size = take-append-le n new (drop (length new) old) (omega arith) ∙ take_all n new (omega arith)

pub returns : goal.returns
unfolding uncovered
returns c =
    let live = is_live c.fleet.result.now in
    let held = is_held c.fleet-2.result.now c.allocation.result.now in
    let marks = c.in_ok-marks.marks.items in
    let left = c.unmark_held.new.marks in
    let takes : TakesMarks held marks left = subst (λ (bs : List Bool). TakesMarks held bs left) c.as_mut_slice.ensures.value c.unmark_held.ensures in
    c.count_marks.ensures
    ∙ ap (λ (bs : List Bool). count_by (λ (mark : Bool). mark) bs) (c.as_slice.ensures.value ∙ written marks left c.in_ok-marks.marks.len (c.unmark_held.ensures.same ∙ c.as_mut_slice.ensures.len))
    ∙ left_are live held marks left (length c.fleet.result.now.known) c.in_ok-marks.ensures.each c.in_ok-marks.ensures.marks takes
    ∙ (λ i. count_by (λ (n : ℕ). not (is_held (c.fleet-2.ensures i) (c.allocation.ensures.pairs i) n)) (live_of (c.fleet.ensures i)))
