-- What a program cannot read.
use Rattle.std.specs.Prelude.{ℕ, List, codes}
use Rattle.json_values.specs.Texts.{IsJson}
use Rattle.offline_commands.specs.declared.unreadable.Unreadable.{Unreadable}
use Rattle.offline_commands.specs.declared.unreadable.Unreadable.TheVariants.{TooLong, NotJson, Shape}

-- an input that is not too long is no JSON, or not what the command accepts
abbrev pub IsUnreadable : (List ℕ → Type 0) → List ℕ → Unreadable → Type 0
IsUnreadable Accepts input TooLong = ⊥
IsUnreadable Accepts input NotJson = ¬ IsJson input
IsUnreadable Accepts input Shape = IsJson input × (¬ Accepts input)

abbrev pub unreadable_line : Unreadable → List ℕ
unreadable_line TooLong = codes "unreadable TooLong\n"
unreadable_line NotJson = codes "unreadable NotJson\n"
unreadable_line Shape = codes "unreadable Shape\n"
