-- The parts of a fleet as JSON values: objects, in which other members don't matter.
use Rattle.std.specs.Prelude.{ℕ, List, Bool, Option, Some, None, option_map, option_and_then, codes}
use Rattle.serde_json.specs.Data.{Data, boolean, string, array, object, Items, no_items, item, no_members, member}
use Rattle.serde_json.specs.Find.{get, as_array, as_bool, as_number, as_str, as_u64}
use Rattle.json_values.specs.Spelling.{number_in, list_in, member_in, number_data, list_data}
use Rattle.json_values.specs.Texts.{json_of}
use Rattle.label_sets.specs.Target.{FinalTarget, target_text}
use Rattle.reach_rules.specs.Name.{name_in}
use Rattle.reach_rules.specs.OwnLimits.{LimitList, limits_in, limits_data}
use Rattle.reach_rules.specs.Spelling.{reach_in, reach_data}
use Rattle.reach_rules.specs.declared.rule.ReachRule.{ReachRule}
use Rattle.fleet.specs.Fleet.{FleetState}
use Rattle.fleet.specs.declared.collector.Collector.{Collector}
use Rattle.fleet.specs.declared.fleet_parts.FleetParts.{FleetParts}
use Rattle.fleet.specs.declared.job.JobSpec.{JobSpec}
use Rattle.fleet.specs.declared.known_target.KnownTarget.{KnownTarget}
use Rattle.fleet_events.specs.Targets.{target_in}

-- a whole number: no fraction, no exponent, no minus sign
abbrev pub count_in : Data → Option ℕ
count_in d = option_and_then as_u64 (as_number d)

-- ---- a job

abbrev pub job_of : List ℕ → ℕ → ℕ → JobSpec
job_of name sources target_limit = record { name = name; target_limit = target_limit; sources = sources }

unfoldable pub job_in : Data → Option JobSpec
job_in d =
    option_and_then (λ name. option_and_then (λ sources. option_map (job_of name sources) (member_in number_in (codes "target_limit") d)) (member_in number_in (codes "sources") d))
    (member_in as_str (codes "name") d)

abbrev pub job_data : JobSpec → Data
job_data job = object (member (codes "name") (string job.name) (member (codes "sources") (number_data job.sources) (member (codes "target_limit") (number_data job.target_limit) no_members)))

-- ---- a target, by the number of its job and the text of its group; of earlier versions an object with the number and the group

abbrev pub known_of : ℕ → FinalTarget → KnownTarget
known_of job target = record { job = job; target = target }

-- the target that a text says
unfoldable pub target_said : List ℕ → Option FinalTarget
target_said text = option_and_then target_in (json_of text)

abbrev pub known_pair : Data → Data → Option KnownTarget
known_pair job text = option_and_then (λ j. option_map (known_of j) (option_and_then target_said (as_str text))) (count_in job)

abbrev pub known_by_text : Items → Option KnownTarget
known_by_text no_items = None
known_by_text (item job no_items) = None
known_by_text (item job (item text no_items)) = known_pair job text
known_by_text (item job (item text (item other more))) = None

abbrev pub known_by_group : Data → Option KnownTarget
known_by_group d = option_and_then (λ job. option_map (known_of job) (member_in target_in (codes "target") d)) (member_in count_in (codes "job") d)

abbrev pub known_by : Option Items → Data → Option KnownTarget
known_by (Some pair) d = known_by_text pair
known_by None d = known_by_group d

unfoldable pub known_in : Data → Option KnownTarget
known_in d = known_by (as_array d) d

abbrev pub known_data : KnownTarget → Data
known_data known = array (item (number_data known.job) (item (string (target_text known.target)) no_items))

-- ---- a collector

abbrev pub collector_of : Bool → ℕ → LimitList → List ℕ → List ReachRule → Collector
collector_of draining id limits name reach = record { id = id; name = name; reach = reach; draining = draining; limits = limits }

unfoldable pub collector_in : Data → Option Collector
collector_in d =
    option_and_then (λ draining. option_and_then (λ id. option_and_then (λ limits. option_and_then (λ name. option_map (collector_of draining id limits name) (member_in reach_in (codes "reach") d))
    (member_in name_in (codes "name") d)) (member_in limits_in (codes "limits") d)) (member_in number_in (codes "id") d)) (option_and_then as_bool (get (codes "draining") d))

abbrev pub collector_data : Collector → Data
collector_data c =
    object (member (codes "draining") (boolean c.draining)
    (member (codes "id") (number_data c.id)
    (member (codes "limits") (limits_data c.limits)
    (member (codes "name") (string c.name)
    (member (codes "reach") (reach_data c.reach) no_members)))))

-- ---- a fleet

abbrev pub fleet_parts_of : List Collector → List JobSpec → ℕ → List (List (List ℕ)) → List KnownTarget → FleetParts
fleet_parts_of collectors jobs last_collector lists targets = record { jobs = jobs; listed = lists; known = targets; collectors = collectors; last_collector = last_collector }

unfoldable pub fleet_parts_in : Data → Option FleetParts
fleet_parts_in d =
    option_and_then (λ collectors. option_and_then (λ jobs. option_and_then (λ last_collector. option_and_then (λ lists. option_map (fleet_parts_of collectors jobs last_collector lists) (member_in (list_in known_in) (codes "targets") d))
    (member_in (list_in (list_in (list_in count_in))) (codes "lists") d)) (member_in number_in (codes "last_collector") d)) (member_in (list_in job_in) (codes "jobs") d)) (member_in (list_in collector_in) (codes "collectors") d)

abbrev pub fleet_data : FleetState → Data
fleet_data fleet =
    object (member (codes "collectors") (list_data collector_data fleet.collectors)
    (member (codes "jobs") (list_data job_data fleet.jobs)
    (member (codes "last_collector") (number_data fleet.last_collector)
    (member (codes "lists") (list_data (list_data (list_data number_data)) fleet.listed)
    (member (codes "targets") (list_data known_data fleet.known) no_members)))))

-- what a fleet is made of
abbrev pub parts_of : FleetState → FleetParts
parts_of fleet = fleet_parts_of fleet.collectors fleet.jobs fleet.last_collector fleet.listed fleet.known
