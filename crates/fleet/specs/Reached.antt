-- Who reaches what: the rows of answers that a fleet keeps, and what is read of them.
use Rattle.std.specs.Prelude.{ℕ, List, Bool, Option, false, map, slice_get}
use Rattle.std.specs.Option.{option_map, option_map_or}
use Rattle.label_sets.specs.Target.{FinalTarget}
use Rattle.reach_rules.specs.Rules.{reaches}
use Rattle.reach_rules.specs.Table.{ReachRow, answered, row_of}
use Rattle.fleet.specs.declared.known_target.KnownTarget.{KnownTarget}
use Rattle.fleet.specs.declared.collector.Collector.{Collector}
use Rattle.fleet.specs.Fleet.{FleetState}

abbrev pub targets_of : List KnownTarget → List FinalTarget
targets_of known = map (λ (k : KnownTarget). k.target) known

-- the target of a number, if there is one
abbrev pub target_at : List KnownTarget → ℕ → Option FinalTarget
target_at known number = option_map (λ (k : KnownTarget). k.target) (slice_get known number)

abbrev pub targets_at : List KnownTarget → List ℕ → List (Option FinalTarget)
targets_at known numbers = map (target_at known) numbers

-- for each live collector the answers of its rules for the known targets
abbrev pub reach_rows : List Collector → List KnownTarget → List ReachRow
reach_rows collectors known = map (λ (c : Collector). row_of c.id c.reach (targets_of known)) collectors

-- the rows where more targets are known
abbrev pub rows_with : List ReachRow → List KnownTarget → List ReachRow
rows_with rows more = map (answered (targets_of more)) rows

-- the rules of the collector at a place reach the known target of a number. Where either is not there, they do not
abbrev pub reaches_in : List Collector → List KnownTarget → ℕ → ℕ → Bool
reaches_in collectors known place number =
    option_map_or (λ (c : Collector). option_map_or (λ (k : KnownTarget). reaches c.reach k.target) (slice_get known number) false) (slice_get collectors place) false

-- the live collector at a place in order of number reaches the known target of a number
abbrev pub reaches_at : FleetState → ℕ → ℕ → Bool
reaches_at fleet place number = reaches_in fleet.collectors fleet.known place number
