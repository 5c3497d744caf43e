use Rattle.std.proofs.Common.{◌≡◌, ℕ, List, IfOk, subst}
use Rattle.label_sets.specs.Target.{target_data}
use Rattle.json_values.proofs.Texts.{printed}
use Rattle.label_sets.proofs.texts.text_of_target.Goals as goal

pub returns-in-Ok : goal.returns-in-Ok
returns-in-Ok c =
    subst (λ (bytes : List ℕ). IfOk c.written_text.result (λ t. t ≡ bytes)) (printed c.new-out.result.tokens c.put_target.new.out.tokens (target_data (record { address = c.args.address.now; labels = c.args.entries.now })) c.new-out.ensures.tokens c.in-Ok.ensures.tokens) c.written_text.ensures.text
