use Rattle.std.proofs.Common.{◌∙◌}
use Rattle.fleet.specs.Live.{is_in}
use Rattle.fleet.proofs.Marks.{chosen_is}
use Rattle.fleet.proofs.listing.ascending.Goals as goal

pub returns : goal.returns
returns c = c.from_vec.ensures ∙ chosen_is (is_in c.args.numbers.now) c.in_ok-marks.marks.items c.as_slice.result.now c.args.known c.in_ok-list.list.items c.as_slice.ensures.value c.in_ok-marks.ensures.each c.in_ok-marks.ensures.marks c.in_ok-list.ensures
