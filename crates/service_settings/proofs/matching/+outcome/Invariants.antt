use Rattle.std.proofs.Common.{◌≡◌, ◌+◌, ◌*◌, length}
use Rattle.service_settings.specs.JoiningPattern.{is_an_end, matches}
use Rattle.service_settings.proofs.matching.+outcome.Given as goal

abbrev pub decreases-outcome_of : goal.decreases-outcome_of
decreases-outcome_of l = 2 * length l.pattern.now

abbrev pub decreases-outcome_behind_star : goal.decreases-outcome_behind_star
decreases-outcome_behind_star l = 2 * length l.pattern.now + 1

abbrev pub invariant-outcome_behind_star-loop-first : goal.invariant-outcome_behind_star-loop-first
invariant-outcome_behind_star-loop-first l = is_an_end (matches l.pattern) l.left ≡ is_an_end (matches l.pattern) l.fn.name

abbrev pub decreases-outcome_behind_star-loop-first : goal.decreases-outcome_behind_star-loop-first
decreases-outcome_behind_star-loop-first l = length l.left
