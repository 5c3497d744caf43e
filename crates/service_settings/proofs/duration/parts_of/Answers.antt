use Rattle.service_settings.specs.Durations.{parts_said}
use Rattle.service_settings.proofs.duration.parts_of.Goals as goal

pub returns : goal.returns
unfolding parts_said
returns c = c.sum_of.ensures
