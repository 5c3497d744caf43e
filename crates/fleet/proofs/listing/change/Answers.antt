use Rattle.fleet.specs.Live.{is_listed}
use Rattle.fleet.proofs.LiveLemmas.{counted, crowd_many, crowd_known, crowd_none, added_is, removed_is}
use Rattle.fleet.proofs.listing.change.Goals as goal

pub returns-then-count_marks-gt-MOST_LIVE_TARGETS : goal.returns-then-count_marks-gt-MOST_LIVE_TARGETS
returns-then-count_marks-gt-MOST_LIVE_TARGETS c =
    crowd_many c.args.listed.now c.args.known c.count_marks.result
    (counted (is_listed c.args.listed.now) c.as_slice-marks.result.now c.in_ok-after.after.items c.args.known c.count_marks.result c.as_slice-marks.ensures.value c.in_ok-after.ensures.each c.in_ok-after.ensures.marks c.count_marks.ensures)
    c.if-count_marks-gt-MOST_LIVE_TARGETS.true

pub returns-then-known-gt-MOST_KNOWN_TARGETS : goal.returns-then-known-gt-MOST_KNOWN_TARGETS
returns-then-known-gt-MOST_KNOWN_TARGETS c =
    crowd_known c.args.listed.now c.args.known c.count_marks.result
    (counted (is_listed c.args.listed.now) c.as_slice-marks.result.now c.in_ok-after.after.items c.args.known c.count_marks.result c.as_slice-marks.ensures.value c.in_ok-after.ensures.each c.in_ok-after.ensures.marks c.count_marks.ensures)
    c.if-count_marks-gt-MOST_LIVE_TARGETS.false c.if-known-gt-MOST_KNOWN_TARGETS.true

pub returns : goal.returns
returns c = (
  crowd_none c.args.listed.now c.args.known c.count_marks.result
      (counted (is_listed c.args.listed.now) c.as_slice-marks.result.now c.in_ok-after.after.items c.args.known c.count_marks.result c.as_slice-marks.ensures.value c.in_ok-after.ensures.each c.in_ok-after.ensures.marks c.count_marks.ensures)
      c.if-count_marks-gt-MOST_LIVE_TARGETS.false c.if-known-gt-MOST_KNOWN_TARGETS.false,
  added_is (is_listed c.args.listed.now) c.args.before.now c.as_slice-marks.result.now c.in_ok-after.after.items c.args.known c.count_only-added.result c.as_slice-marks.ensures.value c.in_ok-after.ensures.each c.in_ok-after.ensures.marks c.count_only-added.ensures.count,
  removed_is (is_listed c.args.listed.now) c.args.before.now c.as_slice-marks.result.now c.in_ok-after.after.items c.args.known c.count_only-removed.result c.as_slice-marks.ensures.value c.in_ok-after.ensures.each c.requires c.in_ok-after.ensures.marks c.count_only-removed.ensures.count,
)
