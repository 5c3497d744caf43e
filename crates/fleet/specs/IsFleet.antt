-- What every fleet keeps.
use Rattle.std.specs.Prelude.{◌≡◌, ◌<◌, ◌≤◌, ◌*◌, ℕ, [], All, AllPairs, length, slice_index_or}
use Rattle.fleet.specs.Fleet.{FleetState, is_live}
use Rattle.fleet.specs.Live.{count_below}
use Rattle.fleet.specs.Jobs.{sources_at}
use Rattle.fleet.specs.Orderly.{IsOrderly}
use Rattle.fleet.specs.declared.known_target.KnownTarget.{KnownTarget}
use Rattle.fleet.specs.declared.collector.Collector.{Collector}
use Rattle.fleet.specs.declared.limits.TheConstants.{LAST_COLLECTOR, MOST_BINS, MOST_COLLECTORS, MOST_KNOWN_TARGETS, MOST_LIVE_TARGETS}

pub record IsFleet (fleet : FleetState) : Type 0 where
  -- each job has a list for each of its sources
  pub each_job : length fleet.listed ≡ length fleet.jobs
  pub each_source : (job : ℕ) → length (slice_index_or fleet.listed job []) ≡ sources_at fleet.jobs job
  pub few_known : length fleet.known ≤ MOST_KNOWN_TARGETS
  pub homes : All (λ (k : KnownTarget). k.job < length fleet.jobs) fleet.known
  pub few_live : count_below (is_live fleet) (length fleet.known) ≤ MOST_LIVE_TARGETS
  pub few_collectors : length fleet.collectors ≤ MOST_COLLECTORS
  pub few_bins : length fleet.jobs * length fleet.collectors ≤ MOST_BINS
  -- whose targets a source lists, and what stands once
  pub orderly : IsOrderly fleet.listed fleet.known fleet.collectors
  -- numbers of collectors are given in order, and each once
  pub ascending : AllPairs (λ (a b : Collector). a.id < b.id) fleet.collectors
  pub were_given : All (λ (c : Collector). c.id ≤ fleet.last_collector) fleet.collectors
  pub numbered : fleet.last_collector ≤ LAST_COLLECTOR
