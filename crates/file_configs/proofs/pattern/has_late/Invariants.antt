use Rattle.std.proofs.Common.{◌≡◌, drop}
use Rattle.std.specs.List.{list_any}
use Rattle.file_configs.specs.Patterns.{is_late}
use Rattle.file_configs.proofs.pattern.has_late.Given as goal

abbrev pub invariant-loop-byte : goal.invariant-loop-byte
invariant-loop-byte l = list_any is_late (drop l.byte-index l.text) ≡ list_any is_late l.text
