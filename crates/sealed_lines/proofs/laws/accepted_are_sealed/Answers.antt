use Rattle.sealed_lines.proofs.AcceptedTexts.{accepted_are_sealed}
use Rattle.sealed_lines.proofs.laws.accepted_are_sealed.Goals as goal

pub returns : goal.returns
returns c = accepted_are_sealed
