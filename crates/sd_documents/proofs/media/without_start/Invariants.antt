use Rattle.std.proofs.Common.{◌≡◌, length}
use Rattle.sd_documents.specs.Media.{past_blanks}
use Rattle.sd_documents.proofs.media.without_start.Given as goal

abbrev pub invariant-loop-rest : goal.invariant-loop-rest
invariant-loop-rest l = past_blanks l.rest ≡ past_blanks l.bytes

abbrev pub decreases-loop-rest : goal.decreases-loop-rest
decreases-loop-rest l = length l.rest
