use Rattle.std.proofs.Common.{◌≡◌, drop}
use Rattle.std.specs.List.{list_all}
use Rattle.service_settings.specs.Doors.{is_host_byte}
use Rattle.service_settings.proofs.settings.doors.is_host_name.Given as goal

abbrev pub invariant-loop-byte : goal.invariant-loop-byte
invariant-loop-byte l = list_all is_host_byte (drop l.byte-index l.name) ≡ list_all is_host_byte l.name
