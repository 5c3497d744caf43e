use Rattle.std.proofs.Common.{◌≡◌, drop}
use Rattle.std.specs.List.{list_all}
use Rattle.service_settings.specs.Acknowledge.{is_host_and_port}
use Rattle.etcd_settings.proofs.place.are_reached.Given as goal

abbrev pub invariant-loop-host : goal.invariant-loop-host
invariant-loop-host l = list_all is_host_and_port (drop l.host-index l.hosts) ≡ list_all is_host_and_port l.hosts
