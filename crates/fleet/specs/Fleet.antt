-- What contracts see of a `Fleet`, and look-ups.
use Rattle.std.specs.Prelude.{ℕ, ◌==◌, ◌&&◌, Bool, List, [], Option, length, find}
use Rattle.std.specs.List.{list_any}
use Rattle.std.specs.Option.{option_map}
use Rattle.std.specs.Str.{bytes_eq}
use Rattle.fleet.specs.declared.job.JobSpec.{JobSpec}
use Rattle.fleet.specs.declared.known_target.KnownTarget.{KnownTarget}
use Rattle.fleet.specs.declared.collector.Collector.{Collector}
use Rattle.fleet.specs.Jobs.{nothing_listed}
use Rattle.fleet.specs.Live.{chosen_below, is_listed}

pub record FleetState : Type 0 where
  pub jobs : List JobSpec
  -- for each job and source the numbers of the targets that it lists, ascending
  pub listed : List (List (List ℕ))
  -- the targets that were ever listed. A target's number is its index
  pub known : List KnownTarget
  -- the live collectors in order of their numbers
  pub collectors : List Collector
  -- the number of the collector that joined last, 0 where none did
  pub last_collector : ℕ

-- nothing is listed or known, and nobody joined
abbrev pub first_fleet : List JobSpec → FleetState
first_fleet jobs = record { jobs = jobs; listed = nothing_listed jobs; known = []; collectors = []; last_collector = 0 }

-- a source of its job lists the target
abbrev pub is_live : FleetState → ℕ → Bool
is_live fleet target = is_listed fleet.listed target

-- the live targets in order of number
abbrev pub live_of : FleetState → List ℕ
live_of fleet = chosen_below (is_live fleet) (length fleet.known)

-- a live collector has the number
abbrev pub is_joined : FleetState → ℕ → Bool
is_joined fleet id = list_any (λ (c : Collector). c.id == id) fleet.collectors

-- a live collector of the number drains
abbrev pub is_draining : FleetState → ℕ → Bool
is_draining fleet id = list_any (λ (c : Collector). (c.id == id) && c.draining) fleet.collectors

-- the number of the live collector of a name
abbrev pub id_named : List Collector → List ℕ → Option ℕ
id_named collectors name = option_map (λ (c : Collector). c.id) (find (λ (c : Collector). bytes_eq c.name name) collectors)
