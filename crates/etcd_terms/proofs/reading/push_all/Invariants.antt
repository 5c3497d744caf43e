use Rattle.std.proofs.Common.{◌≡◌, ◌++◌, take}
use Rattle.etcd_terms.proofs.reading.push_all.Given as goal

abbrev pub invariant-loop-byte : goal.invariant-loop-byte
invariant-loop-byte l = l.text ≡ l.initial.text ++ take l.byte-index l.bytes
