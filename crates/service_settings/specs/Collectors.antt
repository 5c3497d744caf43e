-- The collectors that the configuration names: a list of objects with the members of a `join` event.
use Rattle.std.specs.Prelude.{ℕ, ◌+◌, List, [], ◌∷◌, ◌++◌, Bool, Option, Some, None, Result, Ok, Err, codes, if◌then◌else◌}
use Rattle.std.specs.Option.{ok_or}
use Rattle.std.specs.List.{list_any}
use Rattle.std.specs.Str.{bytes_eq}
use Rattle.serde_json.specs.Data.{Data, Items, no_items, item}
use Rattle.serde_json.specs.Find.{get}
use Rattle.json_values.specs.Spelling.{member_in}
use Rattle.reach_rules.specs.Name.{name_in}
use Rattle.reach_rules.specs.OwnLimits.{LimitList, limits_in}
use Rattle.reach_rules.specs.Spelling.{reach_in}
use Rattle.service_settings.specs.declared.error.SettingsError.{SettingsError}
use Rattle.service_settings.specs.declared.error.SettingsError.TheVariants.{Shape, RepeatedCollector}
use Rattle.service_settings.specs.declared.error.Member.TheVariants as part
use Rattle.service_settings.specs.declared.settings.collectors.Collector.{Collector}
use Rattle.service_settings.specs.declared.settings.members.Kind.TheVariants as kind
use Rattle.service_settings.specs.Members.{members_said}
use Rattle.service_settings.specs.Reading.{◌>>=◌, items_said}

-- a collector's own limits: it has none where they are left out
abbrev pub limits_or_none : Option Data → Option LimitList
limits_or_none None = Some []
limits_or_none (Some d) = limits_in d

unfoldable pub collector_said : ℕ → Data → Result Collector SettingsError
collector_said index d =
    members_said kind.Collector (part.Collector index) d >>= λ known.
    ok_or (member_in name_in (codes "name") d) (Shape (part.CollectorName index)) >>= λ name.
    ok_or (member_in reach_in (codes "reach") d) (Shape (part.CollectorReach index)) >>= λ reach.
    ok_or (limits_or_none (get (codes "limits") d)) (Shape (part.CollectorLimits index)) >>= λ limits.
    Ok (record { name = name; reach = reach; limits = limits })

-- an earlier collector has the name
abbrev pub is_taken : List Collector → List ℕ → Bool
is_taken collectors name = list_any (λ (collector : Collector). bytes_eq collector.name name) collectors

abbrev pub next_collector : ℕ → List Collector → Collector → Result (List Collector) SettingsError
next_collector index collectors collector =
    if is_taken collectors collector.name then Err (RepeatedCollector index) else Ok (collectors ++ collector ∷ [])

-- the collectors before this index, and that at it
abbrev pub with_collector : ℕ → List Collector → Data → Result (List Collector) SettingsError
with_collector index collectors d = collector_said index d >>= next_collector index collectors

-- the collectors before this index, and those from there on
abbrev pub collectors_from : ℕ → List Collector → Items → Result (List Collector) SettingsError
collectors_from index collectors no_items = Ok collectors
collectors_from index collectors (item d ds) = with_collector index collectors d >>= λ more. collectors_from (index + 1) more ds

-- names differ
abbrev pub collectors_said : Option Data → Result (List Collector) SettingsError
collectors_said found = items_said part.Collectors found >>= collectors_from 0 []
