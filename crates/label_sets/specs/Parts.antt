-- What a target is made of.
use Rattle.std.specs.Prelude.{◌≡◌}
use Rattle.label_sets.specs.Target.{FinalTarget, IsFinal, target_text}
use Rattle.label_sets.specs.declared.target.Parts.{Parts}

abbrev pub target_of : Parts → FinalTarget
target_of parts = record { address = parts.address; labels = parts.labels }

-- the text is the target's
abbrev pub AreFinal : Parts → Type 0
AreFinal parts = (parts.text ≡ target_text (target_of parts)) × IsFinal (target_of parts)
