use Rattle.fleet.specs.Live.{is_listed}
use Rattle.fleet.proofs.Marks.{chosen_is}
use Rattle.fleet.proofs.live.live_numbers.Goals as goal

pub returns : goal.returns
returns c = chosen_is (is_listed c.args.listed.now) c.in_ok-marks.marks.items c.as_slice.result.now c.args.known c.in_ok-numbers.numbers.items c.as_slice.ensures.value c.in_ok-marks.ensures.each c.in_ok-marks.ensures.marks c.in_ok-numbers.ensures
