use Rattle.std.proofs.Common.{refl}
use Rattle.offline_commands.proofs.spreading.answer_to.Goals as goal

pub returns-in_ok-spread_of-in-Ok : goal.returns-in_ok-spread_of-in-Ok
returns-in_ok-spread_of-in-Ok c = record { instance = record { problem = c.in-Ok.instance; document = c.in-Ok.ensures.ok }; plan = c.in_ok-spread_of-in-Ok.ensures; ends = refl }

pub returns-in-Err-Shape : goal.returns-in-Err-Shape
returns-in-Err-Shape c = (c.in-Err-Shape.ensures.is_json (cc), λ h. c.in-Err-Shape.ensures.shape (cc) h.problem h.document)
