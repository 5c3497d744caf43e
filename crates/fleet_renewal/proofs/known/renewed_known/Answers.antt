use Rattle.std.proofs.Common.{◌∙◌, true, None, Some, sym}
use Rattle.std.proofs.lemmas.List.{append-nil}
use Rattle.fleet_renewal.proofs.KnownLemmas.{known_next, known_skipped}
use Rattle.fleet_renewal.proofs.known.renewed_known.Goals as goal
use Rattle.fleet_renewal.proofs.known.renewed_known.Goals.{then-marks-number+in_ok-target+in-Some+in_ok-push, then-marks-number+in_ok-target+in_default, else-marks-number}

pub loop-number-preserved : goal.loop-number-preserved
loop-number-preserved c = elim c.if-marks-number.branch [
  | then-marks-number+in_ok-target+in-Some+in_ok-push w ↦
      known_next c.args.known.now c.args.places.now c.args.marks.now c.loop-number.number w.index-known-number.result true (Some w.in-Some.target) c.loop-number.renewed.items c.if-marks-number.renewed.items c.loop-number-test.true w.index-known-number.is w.if-marks-number.true (sym w.in-Some.is ∙ w.in_ok-target.ensures)
      c.loop-number.invariant ((λ i. (w.renewed-is i).items) ∙ w.in_ok-push.ensures.items)
  | then-marks-number+in_ok-target+in_default w ↦
      known_next c.args.known.now c.args.places.now c.args.marks.now c.loop-number.number w.index-known-number.result true None c.loop-number.renewed.items c.if-marks-number.renewed.items c.loop-number-test.true w.index-known-number.is w.if-marks-number.true (sym w.in_default.is ∙ w.in_ok-target.ensures)
      c.loop-number.invariant ((λ i. (w.renewed-is i).items) ∙ sym (append-nil c.loop-number.renewed.items))
  | else-marks-number w ↦ known_skipped c.args.known.now c.args.places.now c.args.marks.now c.loop-number.number c.loop-number.renewed.items c.if-marks-number.renewed.items w.if-marks-number.false c.loop-number.invariant (λ i. (w.renewed-is i).items)
]
