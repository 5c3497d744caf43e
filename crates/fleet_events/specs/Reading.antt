-- The event that a JSON object says: its member `event` is the event's name. Members that the event does not have don't
-- matter.
use Rattle.std.specs.Prelude.{ℕ, zero, suc, Bool, true, false, List, [], Option, Some, None, option_map, option_and_then, codes, if◌then◌else◌}
use Rattle.std.specs.Str.{bytes_eq}
use Rattle.serde_json.specs.Data.{Data}
use Rattle.serde_json.specs.Find.{as_bool, as_str, get}
use Rattle.json_values.specs.Texts.{json_of}
use Rattle.json_values.specs.Spelling.{number_in, list_in, member_in}
use Rattle.label_sets.specs.Target.{FinalTarget}
use Rattle.price_certificate.specs.Plan.{plan_in}
use Rattle.reach_rules.specs.Name.{name_in}
use Rattle.reach_rules.specs.OwnLimits.{LimitList, limits_in}
use Rattle.reach_rules.specs.Spelling.{reach_in}
use Rattle.scrape_books.specs.declared.report.Outcome.{Outcome}
use Rattle.scrape_books.specs.declared.report.Outcome.TheVariants.{Up, Down}
use Rattle.spread_certificate.specs.Document.{spread_in}
use Rattle.fleet_events.specs.declared.event.Event.{Event}
use Rattle.fleet_events.specs.declared.event.Event.TheVariants.{Discover, Join, Leave, Drain, SetLimits, Install, Spread, NextRound, Take, Serve, Release, Report}
use Rattle.fleet_events.specs.Targets.{target_in}

-- ---- discover

-- a list of targets
abbrev pub targets_in : Data → Option (List FinalTarget)
targets_in = list_in target_in

-- a job's name, the number of its source, and the targets that it lists
unfoldable pub discover_in : Data → Option Event
discover_in d =
    option_and_then (λ job. option_and_then (λ source. option_map (Discover job source) (member_in targets_in (codes "targets") d)) (member_in number_in (codes "source") d))
    (member_in as_str (codes "job") d)

-- ---- join

-- a collector's own limits: it has none where the member is left out
abbrev pub limits_or_none : Option Data → Option LimitList
limits_or_none None = Some []
limits_or_none (Some d) = limits_in d

-- a collector's name, the rules by which it reaches targets, and the limits of its own
unfoldable pub join_in : Data → Option Event
join_in d =
    option_and_then (λ name. option_and_then (λ reach. option_map (Join name reach) (limits_or_none (get (codes "limits") d))) (member_in reach_in (codes "reach") d))
    (member_in name_in (codes "name") d)

-- ---- leave, drain and take

-- the number of a collector
abbrev pub collector_in : Data → Option ℕ
collector_in d = member_in number_in (codes "collector") d

abbrev pub leave_in : Data → Option Event
leave_in d = option_map Leave (collector_in d)

abbrev pub drain_in : Data → Option Event
drain_in d = option_map Drain (collector_in d)

abbrev pub take_in : Data → Option Event
take_in d = option_map Take (collector_in d)

-- ---- limits

-- the number of a collector, and the limits that it has of its own from now on
unfoldable pub set_limits_in : Data → Option Event
set_limits_in d = option_and_then (λ collector. option_map (SetLimits collector) (member_in limits_in (codes "limits") d)) (collector_in d)

-- ---- install

-- a plan
abbrev pub install_in : Data → Option Event
install_in d = option_map Install (plan_in d)

-- ---- spread

-- a plan, the caps that it is within, and the prices where nothing was before
abbrev pub spread_event_in : Data → Option Event
spread_event_in d = option_and_then (λ plan. option_map Spread (spread_in plan d)) (plan_in d)

-- ---- serve and release

-- the number of a collector, and a job's name
unfoldable pub serve_in : Data → Option Event
serve_in d = option_and_then (λ collector. option_map (Serve collector) (member_in as_str (codes "job") d)) (collector_in d)

-- a job's name: none is named where the member is left out
abbrev pub job_or_none : Option Data → Option (Option (List ℕ))
job_or_none None = Some None
job_or_none (Some d) = option_map Some (as_str d)

-- the number of a collector, and the name of the job whose list it lets go, if one is named
unfoldable pub release_in : Data → Option Event
release_in d = option_and_then (λ collector. option_map (Release collector) (job_or_none (get (codes "job") d))) (collector_in d)

-- ---- report

-- a scrape that failed has no samples: they are left out, or 0
abbrev pub nothing_scraped : Option ℕ → Option Outcome
nothing_scraped (Some zero) = Some Down
nothing_scraped (Some (suc samples)) = None
nothing_scraped None = None

abbrev pub down_in : Option Data → Option Outcome
down_in None = Some Down
down_in (Some d) = nothing_scraped (number_in d)

abbrev pub outcome_by : Bool → Data → Option Outcome
outcome_by true d = option_map Up (member_in number_in (codes "samples") d)
outcome_by false d = down_in (get (codes "samples") d)

-- whether the target was up, and how many samples it gave
unfoldable pub outcome_in : Data → Option Outcome
outcome_in d = option_and_then (λ up. outcome_by up d) (member_in as_bool (codes "up") d)

-- the report of these
abbrev pub reported : ℕ → ℕ → ℕ → ℕ → Outcome → Event
reported collector allocation target round outcome = Report (record { collector = collector; allocation = allocation; target = target; round = round; outcome = outcome })

-- the numbers of the collector, of the allocation, of the target and of the round, and what the scrape came to
unfoldable pub report_in : Data → Option Event
report_in d =
    option_and_then
    (λ collector. option_and_then (λ allocation. option_and_then (λ target. option_and_then (λ round. option_map (reported collector allocation target round) (outcome_in d)) (member_in number_in (codes "round") d)) (member_in number_in (codes "target") d))
    (member_in number_in (codes "number") d)) (collector_in d)

-- ---- all of them

-- the event of a name
abbrev pub event_named : List ℕ → Data → Option Event
event_named name d =
    if bytes_eq name (codes "discover") then discover_in d else (if bytes_eq name (codes "join") then join_in d
    else (if bytes_eq name (codes "leave") then leave_in d else (if bytes_eq name (codes "drain") then drain_in d
    else (if bytes_eq name (codes "limits") then set_limits_in d else (if bytes_eq name (codes "install") then install_in d
    else (if bytes_eq name (codes "round") then Some NextRound else (if bytes_eq name (codes "take") then take_in d
    else (if bytes_eq name (codes "serve") then serve_in d else (if bytes_eq name (codes "release") then release_in d
    else (if bytes_eq name (codes "report") then report_in d else (if bytes_eq name (codes "spread") then spread_event_in d
    else None)))))))))))

-- the event that a JSON value says
unfoldable pub event_in : Data → Option Event
event_in d = option_and_then (λ name. event_named name d) (member_in as_str (codes "event") d)

-- the event that a text says
abbrev pub event_of : List ℕ → Option Event
event_of text = option_and_then event_in (json_of text)
