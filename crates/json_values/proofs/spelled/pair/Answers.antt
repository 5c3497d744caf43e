use Rattle.std.proofs.Common.{ap, option_and_then, ◌∙◌}
use Rattle.json_values.specs.Spelling.{pair_from}
use Rattle.json_values.proofs.Lists.{pair_from-short, pair_from-long}
use Rattle.json_values.proofs.spelled.pair.Goals as goal

pub returns-in_default : goal.returns-in_default
returns-in_default c = pair_from-short _ _ c.as_slice.ensures.value c.in_default.len_below ∙ ap (option_and_then pair_from) c.in_ok-as_array.ensures

pub returns-in_default-2 : goal.returns-in_default-2
returns-in_default-2 c = pair_from-long _ _ c.as_slice.ensures.value c.in_default.len_at_least ∙ ap (option_and_then pair_from) c.in_ok-as_array.ensures
