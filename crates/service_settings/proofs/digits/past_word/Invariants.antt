use Rattle.std.proofs.Common.{◌≡◌, length}
use Rattle.service_settings.specs.Digits.{past_word}
use Rattle.service_settings.proofs.digits.past_word.Given as goal

abbrev pub invariant-loop-rest : goal.invariant-loop-rest
invariant-loop-rest l = past_word l.rest ≡ past_word l.text

abbrev pub decreases-loop-rest : goal.decreases-loop-rest
decreases-loop-rest l = length l.rest
