use Rattle.sealed_lines.proofs.SealedTexts.{sealed_are_read}
use Rattle.sealed_lines.proofs.laws.sealed_are_read.Goals as goal

pub returns : goal.returns
returns c = sealed_are_read
