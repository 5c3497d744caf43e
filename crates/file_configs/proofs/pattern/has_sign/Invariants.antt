use Rattle.std.proofs.Common.{◌≡◌, drop}
use Rattle.std.specs.List.{list_any}
use Rattle.file_configs.specs.Patterns.{is_sign}
use Rattle.file_configs.proofs.pattern.has_sign.Given as goal

abbrev pub invariant-loop-byte : goal.invariant-loop-byte
invariant-loop-byte l = list_any is_sign (drop l.byte-index l.text) ≡ list_any is_sign l.text
