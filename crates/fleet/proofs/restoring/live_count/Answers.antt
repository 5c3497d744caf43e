use Rattle.fleet.specs.Live.{is_listed}
use Rattle.fleet.proofs.LiveLemmas.{counted}
use Rattle.fleet.proofs.restoring.live_count.Goals as goal

pub returns : goal.returns
returns c = counted (is_listed c.args.listed.now) c.as_slice.result.now c.in_ok-marks.marks.items c.args.known c.count_marks.result c.as_slice.ensures.value c.in_ok-marks.ensures.each c.in_ok-marks.ensures.marks c.count_marks.ensures
