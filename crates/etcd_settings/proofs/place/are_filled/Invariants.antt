use Rattle.std.proofs.Common.{◌≡◌, drop}
use Rattle.std.specs.List.{list_all}
use Rattle.etcd_settings.specs.Reading.{is_filled}
use Rattle.etcd_settings.proofs.place.are_filled.Given as goal

abbrev pub invariant-loop-name : goal.invariant-loop-name
invariant-loop-name l = list_all is_filled (drop l.name-index l.names) ≡ list_all is_filled l.names
