-- What is to happen to the collector that a path means.
use Rattle.std.specs.Prelude.{ℕ, None}
use Rattle.fleet_events.specs.declared.event.Event.{Event}
use Rattle.fleet_events.specs.declared.event.Event.TheVariants as event
use Rattle.sd_routes.specs.declared.change.Change.{Change}
use Rattle.sd_routes.specs.declared.change.Change.TheVariants.{Leave, Drain, Release, SetLimits}
use Rattle.sd_routes.specs.declared.change.Wanted.{Wanted}
use Rattle.sd_routes.specs.declared.change.Wanted.TheVariants.{Event as AnEvent, OfNamed}
use Rattle.sd_routes.specs.declared.which_collector.WhichCollector.{WhichCollector}
use Rattle.sd_routes.specs.declared.which_collector.WhichCollector.TheVariants.{Number, Name}

-- the event by which it happens to the collector of a number
abbrev pub change_event : Change → ℕ → Event
change_event Leave collector = event.Leave collector
change_event Drain collector = event.Drain collector
change_event Release collector = event.Release collector None
change_event (SetLimits limits) collector = event.SetLimits collector limits

-- to the collector of a number it happens by an event; which number a name is of is known only when it happens
abbrev pub wanted_of : WhichCollector → Change → Wanted
wanted_of (Number collector) change = AnEvent (change_event change collector)
wanted_of (Name name) change = OfNamed name change
