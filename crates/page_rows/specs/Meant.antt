-- Which collector is meant.
use Rattle.std.specs.Prelude.{ℕ, Option, Some, None, if◌then◌else◌}
use Rattle.fleet.specs.Fleet.{id_named, is_joined}
use Rattle.allocation_core.specs.State.{State}
use Rattle.sd_routes.specs.declared.which_collector.WhichCollector.{WhichCollector}
use Rattle.sd_routes.specs.declared.which_collector.WhichCollector.TheVariants.{Number, Name}

-- the number of the live collector that is meant, if there is one
abbrev pub id_meant : State → WhichCollector → Option ℕ
id_meant m (Number id) = if is_joined m.fleet id then Some id else None
id_meant m (Name name) = id_named m.fleet.collectors name
