use Rattle.std.proofs.Common.{◌≡◌, ◌++◌, drop, Ok}
use Rattle.serde_json.specs.View.{items_view}
use Rattle.service_settings.specs.Reading.{◌>>=◌, each_from}
use Rattle.service_settings.specs.JoiningPattern.{joining_pattern_said}
use Rattle.service_settings.proofs.settings.joining_pattern.each_pattern.Given as goal

abbrev pub invariant-loop-index : goal.invariant-loop-index
invariant-loop-index l = each_from joining_pattern_said l.index (items_view (drop l.index l.items)) >>= (λ xs. Ok (l.patterns ++ xs)) ≡ each_from joining_pattern_said 0 (items_view l.items)
