-- The settings of the service: members of the document of a configuration. Null is no absent member.
use Rattle.std.specs.Prelude.{ℕ, List, Option, true, false, Result, Ok, Err, is_some, codes, if◌then◌else◌}
use Rattle.serde_json.specs.Data.{Data}
use Rattle.serde_json.specs.Find.{get, as_str, as_bool, as_object}
use Rattle.json_values.specs.Spelling.{number_in}
use Rattle.service_settings.specs.declared.error.SettingsError.{SettingsError}
use Rattle.service_settings.specs.declared.error.SettingsError.TheVariants.{Shape}
use Rattle.service_settings.specs.declared.error.Member.TheVariants as part
use Rattle.service_settings.specs.declared.settings.Settings.{Settings}
use Rattle.service_settings.specs.declared.settings.TheConstants.{DEFAULT_INTERVAL, DEFAULT_SETTLE, DEFAULT_KEEP, DEFAULT_GIVE_UP, DEFAULT_CONNECTIONS, DEFAULT_REPORT_ROUNDS, DEFAULT_FETCH_TIMEOUT, DEFAULT_LISTEN}
use Rattle.service_settings.specs.declared.settings.job_spread.JobSpread.{JobSpread}
use Rattle.service_settings.specs.declared.settings.allocator.Housekeeping.{Housekeeping}
use Rattle.service_settings.specs.declared.settings.allocator.Collecting.{Collecting}
use Rattle.service_settings.specs.declared.settings.members.Kind.TheVariants as kind
use Rattle.service_settings.specs.declared.settings.doors.Doors.{Doors}
use Rattle.service_settings.specs.Collectors.{collectors_said}
use Rattle.service_settings.specs.Doors.{doors_said}
use Rattle.service_settings.specs.ReachChanges.{reach_changes_said}
use Rattle.service_settings.specs.CollectorTimeout.{collector_timeout_said}
use Rattle.service_settings.specs.Handover.{handover_said}
use Rattle.service_settings.specs.Acknowledge.{acknowledge_said}
use Rattle.service_settings.specs.JoiningPattern.{join_by_asking_said}
use Rattle.service_settings.specs.Lifecycle.{lifecycle_said}
use Rattle.service_settings.specs.ReleaseAfter.{release_after_said}
use Rattle.service_settings.specs.Spread.{spread_said}
use Rattle.service_settings.specs.JobSpread.{spreads_said}
use Rattle.service_settings.specs.Members.{known_said}
use Rattle.service_settings.specs.Reading.{◌>>=◌, json_said, member_at, duration_in, time_in, address_in, connections_in, report_rounds_in, said_or, said_or_none, object_said, items_said, each_from}

-- ---- rounds, and the sources of the jobs

-- `scrape_interval` of `global`
abbrev pub scrape_interval_said : Data → Result ℕ SettingsError
scrape_interval_said d =
    object_said part.Global (get (codes "global") d) >>= λ global.
    said_or DEFAULT_INTERVAL time_in part.ScrapeInterval (member_at (codes "scrape_interval") global)

-- `refresh_interval` of an entry of `http_sd_configs`
abbrev pub source_said : ℕ → ℕ → Data → Result ℕ SettingsError
source_said job entry d =
    if is_some (as_object d) then said_or DEFAULT_INTERVAL time_in (part.RefreshInterval job entry) (get (codes "refresh_interval") d)
    else Err (Shape (part.HttpSdConfig job entry))

abbrev pub sources_said : ℕ → Data → Result (List ℕ) SettingsError
sources_said job d =
    if is_some (as_object d) then (items_said (part.HttpSdConfigs job) (get (codes "http_sd_configs") d) >>= each_from (source_said job) 0)
    else Err (Shape (part.ScrapeConfig job))

abbrev pub refresh_said : Data → Result (List (List ℕ)) SettingsError
refresh_said d = items_said part.ScrapeConfigs (get (codes "scrape_configs") d) >>= each_from sources_said 0

-- ---- the members of `allocator`, if it is there

unfoldable pub housekeeping_said : Option Data → Result Housekeeping SettingsError
housekeeping_said allocator =
    said_or DEFAULT_LISTEN address_in part.Listen (member_at (codes "listen") allocator) >>= λ listen.
    lifecycle_said (member_at (codes "lifecycle") allocator) >>= λ lifecycle.
    said_or_none as_str part.Journal (member_at (codes "journal") allocator) >>= λ journal.
    said_or DEFAULT_KEEP number_in part.Keep (member_at (codes "keep") allocator) >>= λ keep.
    said_or DEFAULT_SETTLE duration_in part.Settle (member_at (codes "settle") allocator) >>= λ settle.
    said_or DEFAULT_GIVE_UP time_in part.GiveUp (member_at (codes "give_up") allocator) >>= λ give_up.
    said_or DEFAULT_CONNECTIONS connections_in part.Connections (member_at (codes "connections") allocator) >>= λ connections.
    said_or DEFAULT_REPORT_ROUNDS report_rounds_in part.ReportRounds (member_at (codes "report_rounds") allocator) >>= λ report_rounds.
    Ok (record { listen = listen; lifecycle = lifecycle; journal = journal; keep = keep; settle = settle; give_up = give_up; connections = connections; report_rounds = report_rounds })

unfoldable pub collecting_said : Option Data → Result Collecting SettingsError
collecting_said allocator =
    said_or false as_bool part.AllowNoJobs (member_at (codes "allow_no_jobs") allocator) >>= λ allow_no_jobs.
    collectors_said (member_at (codes "collectors") allocator) >>= λ collectors.
    join_by_asking_said (member_at (codes "join_by_asking") allocator) >>= λ join_by_asking.
    reach_changes_said (member_at (codes "reach_changes") allocator) >>= λ reach_changes.
    said_or true as_bool part.Rejoin (member_at (codes "rejoin") allocator) >>= λ rejoin.
    collector_timeout_said (member_at (codes "collector_timeout") allocator) >>= λ collector_timeout.
    handover_said (member_at (codes "handover") allocator) >>= λ handover.
    acknowledge_said (member_at (codes "acknowledge") allocator) >>= λ acknowledge.
    release_after_said (member_at (codes "release_after") allocator) >>= λ release_after.
    spread_said (member_at (codes "spread") allocator) >>= λ spread.
    said_or DEFAULT_FETCH_TIMEOUT time_in part.FetchTimeout (member_at (codes "fetch_timeout") allocator) >>= λ fetch_timeout.
    Ok (record { allow_no_jobs = allow_no_jobs; collectors = collectors; join_by_asking = join_by_asking; reach_changes = reach_changes; rejoin = rejoin; collector_timeout = collector_timeout; handover = handover; acknowledge = acknowledge; release_after = release_after; spread = spread; fetch_timeout = fetch_timeout })

-- ---- all of them

abbrev pub settings_of : ℕ → List (List ℕ) → List JobSpread → Housekeeping → Doors → Collecting → Settings
settings_of scrape_interval refresh spreads house doors fleet = record {
  scrape_interval = scrape_interval;
  refresh = refresh;
  spreads = spreads;
  listen = house.listen;
  lifecycle = house.lifecycle;
  journal = house.journal;
  keep = house.keep;
  settle = house.settle;
  give_up = house.give_up;
  connections = house.connections;
  report_rounds = house.report_rounds;
  doors = doors;
  allow_no_jobs = fleet.allow_no_jobs;
  collectors = fleet.collectors;
  join_by_asking = fleet.join_by_asking;
  reach_changes = fleet.reach_changes;
  rejoin = fleet.rejoin;
  collector_timeout = fleet.collector_timeout;
  handover = fleet.handover;
  acknowledge = fleet.acknowledge;
  release_after = fleet.release_after;
  spread = fleet.spread;
  fetch_timeout = fleet.fetch_timeout;
}

abbrev pub members_said : Data → Result Settings SettingsError
members_said d =
    scrape_interval_said d >>= λ scrape_interval.
    refresh_said d >>= λ refresh.
    spreads_said d >>= λ spreads.
    known_said kind.Allocator part.Allocator (get (codes "allocator") d) >>= λ allocator.
    housekeeping_said allocator >>= λ house.
    doors_said allocator >>= λ doors.
    collecting_said allocator >>= λ fleet.
    Ok (settings_of scrape_interval refresh spreads house doors fleet)

unfoldable pub settings_said : Data → Result Settings SettingsError
settings_said d = if is_some (as_object d) then members_said d else Err (Shape part.Document)

-- the document of a configuration
abbrev pub settings_read : List ℕ → Result Settings SettingsError
settings_read bytes = json_said bytes >>= settings_said
