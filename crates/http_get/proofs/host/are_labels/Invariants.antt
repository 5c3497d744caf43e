use Rattle.std.proofs.Common.{◌≡◌, ◌≤◌, drop}
use Rattle.http_get.specs.Hosts.{are_labels}
use Rattle.http_get.proofs.host.are_labels.Given as goal

abbrev pub invariant-loop-byte : goal.invariant-loop-byte
invariant-loop-byte l = (are_labels l.long l.last (drop l.byte-index l.name) ≡ are_labels 0 46 l.name) × (l.long ≤ l.byte-index)
