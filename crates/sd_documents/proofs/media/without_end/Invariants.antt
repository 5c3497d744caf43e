use Rattle.std.proofs.Common.{◌≡◌, length}
use Rattle.sd_documents.specs.Media.{up_to_blanks}
use Rattle.sd_documents.proofs.media.without_end.Given as goal

abbrev pub invariant-loop-rest : goal.invariant-loop-rest
invariant-loop-rest l = up_to_blanks l.rest ≡ up_to_blanks l.bytes

abbrev pub decreases-loop-rest : goal.decreases-loop-rest
decreases-loop-rest l = length l.rest
