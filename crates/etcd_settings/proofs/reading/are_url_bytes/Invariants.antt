use Rattle.std.proofs.Common.{◌≡◌, drop}
use Rattle.std.specs.List.{list_all}
use Rattle.etcd_settings.specs.Urls.{is_url_byte}
use Rattle.etcd_settings.proofs.reading.are_url_bytes.Given as goal

abbrev pub invariant-loop-byte : goal.invariant-loop-byte
invariant-loop-byte l = list_all is_url_byte (drop l.byte-index l.text) ≡ list_all is_url_byte l.text
