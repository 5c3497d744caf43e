use Rattle.std.proofs.Common.{◌≡◌, drop}
use Rattle.std.specs.List.{list_all}
use Rattle.http_get.specs.Hosts.{is_digit_or_dot}
use Rattle.http_get.proofs.host.is_number.Given as goal

abbrev pub invariant-loop-byte : goal.invariant-loop-byte
invariant-loop-byte l = list_all is_digit_or_dot (drop l.byte-index l.name) ≡ list_all is_digit_or_dot l.name
