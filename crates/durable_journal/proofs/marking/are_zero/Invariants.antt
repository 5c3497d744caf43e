use Rattle.std.proofs.Common.{◌≡◌, drop}
use Rattle.std.specs.Prelude.{nat_eq}
use Rattle.std.specs.List.{list_all}
use Rattle.durable_journal.proofs.marking.are_zero.Given as goal

abbrev pub invariant-loop-byte : goal.invariant-loop-byte
invariant-loop-byte l = list_all (λ b. nat_eq b 0) (drop l.byte-index l.bytes) ≡ list_all (λ b. nat_eq b 0) l.bytes
