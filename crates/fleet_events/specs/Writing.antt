-- The one form in which an event is written: a compact JSON object, its members in byte order of their names.
use Rattle.std.specs.Prelude.{ℕ, Bool, List, [], ◌∷◌, Option, Some, None, true, false, codes, decimal}
use Rattle.json.specs.Token as token
use Rattle.json.specs.Token.{Token, begin_object, key}
use Rattle.serde_json.specs.Data.{Data, Members, boolean, string, object, no_members, member}
use Rattle.serde_json.specs.Written.{compact_text}
use Rattle.json_values.specs.Spelling.{number_data, pair_data, list_data}
use Rattle.label_sets.specs.Target.{FinalTarget, target_data}
use Rattle.price_certificate.specs.declared.plan.Plan.{Plan}
use Rattle.reach_rules.specs.OwnLimits.{LimitList, limits_data}
use Rattle.reach_rules.specs.Spelling.{reach_data}
use Rattle.reach_rules.specs.declared.rule.ReachRule.{ReachRule}
use Rattle.scrape_books.specs.declared.report.Outcome.{Outcome}
use Rattle.scrape_books.specs.declared.report.Outcome.TheVariants.{Up, Down}
use Rattle.spread_certificate.specs.Document.{even_data}
use Rattle.spread_certificate.specs.declared.even.Even.{Even}
use Rattle.spread_certificate.specs.declared.spread.Spread.{Spread as SpreadPlan}
use Rattle.fleet_events.specs.declared.event.Event.{Event}
use Rattle.fleet_events.specs.declared.event.Event.TheVariants.{Discover, Join, Leave, Drain, SetLimits, Install, Spread, NextRound, Take, Serve, Release, Report}

abbrev pub discover_data : List ℕ → ℕ → List FinalTarget → Data
discover_data job source targets =
    object (member (codes "event") (string (codes "discover"))
    (member (codes "job") (string job)
    (member (codes "source") (number_data source)
    (member (codes "targets") (list_data target_data targets) no_members))))

abbrev pub unlimited_join_data : List ℕ → List ReachRule → Data
unlimited_join_data name reach =
    object (member (codes "event") (string (codes "join"))
    (member (codes "name") (string name)
    (member (codes "reach") (reach_data reach) no_members)))

abbrev pub limited_join_data : List ℕ → List ReachRule → LimitList → Data
limited_join_data name reach limits =
    object (member (codes "event") (string (codes "join"))
    (member (codes "limits") (limits_data limits)
    (member (codes "name") (string name)
    (member (codes "reach") (reach_data reach) no_members))))

-- a collector without limits of its own has no member `limits`
abbrev pub join_data : List ℕ → List ReachRule → LimitList → Data
join_data name reach [] = unlimited_join_data name reach
join_data name reach (entry ∷ limits) = limited_join_data name reach (entry ∷ limits)

-- an event of this name that has a collector alone
abbrev pub collector_data : List ℕ → ℕ → Data
collector_data name collector = object (member (codes "collector") (number_data collector) (member (codes "event") (string name) no_members))

abbrev pub set_limits_data : ℕ → LimitList → Data
set_limits_data collector limits =
    object (member (codes "collector") (number_data collector)
    (member (codes "event") (string (codes "limits"))
    (member (codes "limits") (limits_data limits) no_members)))

abbrev pub install_data : Plan → Data
install_data plan =
    object (member (codes "bin_prices") (list_data number_data plan.bin_prices)
    (member (codes "event") (string (codes "install"))
    (member (codes "item_prices") (list_data number_data plan.item_prices)
    (member (codes "pairs") (list_data pair_data plan.pairs) no_members))))

-- the members of a spread behind its name
abbrev pub free_members : SpreadPlan → Members
free_members spread =
    member (codes "free_bin_prices") (list_data number_data spread.free_bin_prices)
    (member (codes "free_item_prices") (list_data number_data spread.free_item_prices)
    (member (codes "item_prices") (list_data number_data spread.plan.item_prices)
    (member (codes "pairs") (list_data pair_data spread.plan.pairs) no_members)))

-- the spread, where it tells this of how even it is
abbrev pub told_spread : SpreadPlan → Option Even → SpreadPlan
told_spread spread even = record spread { even = even }

-- a spread that does not tell how even it is has no member `even`
abbrev pub told_spread_data : SpreadPlan → Option Even → Data
told_spread_data spread None =
    object (member (codes "bin_prices") (list_data number_data spread.plan.bin_prices)
    (member (codes "caps") (list_data number_data spread.caps)
    (member (codes "event") (string (codes "spread")) (free_members spread))))
told_spread_data spread (Some even) =
    object (member (codes "bin_prices") (list_data number_data spread.plan.bin_prices)
    (member (codes "caps") (list_data number_data spread.caps)
    (member (codes "even") (even_data even)
    (member (codes "event") (string (codes "spread")) (free_members spread)))))

abbrev pub spread_event_data : SpreadPlan → Data
spread_event_data spread = told_spread_data spread spread.even

abbrev pub round_data : Data
round_data = object (member (codes "event") (string (codes "round")) no_members)

abbrev pub serve_data : ℕ → List ℕ → Data
serve_data collector job =
    object (member (codes "collector") (number_data collector)
    (member (codes "event") (string (codes "serve"))
    (member (codes "job") (string job) no_members)))

abbrev pub job_release_data : ℕ → List ℕ → Data
job_release_data collector job =
    object (member (codes "collector") (number_data collector)
    (member (codes "event") (string (codes "release"))
    (member (codes "job") (string job) no_members)))

-- a release that names no job has no member `job`
abbrev pub release_data : ℕ → Option (List ℕ) → Data
release_data collector None = collector_data (codes "release") collector
release_data collector (Some job) = job_release_data collector job

-- a scrape that failed has no member `samples`
abbrev pub report_data : ℕ → ℕ → ℕ → ℕ → Outcome → Data
report_data collector allocation target round (Up samples) =
    object (member (codes "collector") (number_data collector)
    (member (codes "event") (string (codes "report"))
    (member (codes "number") (number_data allocation)
    (member (codes "round") (number_data round)
    (member (codes "samples") (number_data samples)
    (member (codes "target") (number_data target)
    (member (codes "up") (boolean true) no_members)))))))
report_data collector allocation target round Down =
    object (member (codes "collector") (number_data collector)
    (member (codes "event") (string (codes "report"))
    (member (codes "number") (number_data allocation)
    (member (codes "round") (number_data round)
    (member (codes "target") (number_data target)
    (member (codes "up") (boolean false) no_members))))))

abbrev pub event_data : Event → Data
event_data (Discover job source targets) = discover_data job source targets
event_data (Join name reach limits) = join_data name reach limits
event_data (Leave collector) = collector_data (codes "leave") collector
event_data (Drain collector) = collector_data (codes "drain") collector
event_data (SetLimits collector limits) = set_limits_data collector limits
event_data (Install plan) = install_data plan
event_data (Spread spread) = spread_event_data spread
event_data NextRound = round_data
event_data (Take collector) = collector_data (codes "take") collector
event_data (Serve collector job) = serve_data collector job
event_data (Release collector job) = release_data collector job
event_data (Report report) = report_data report.collector report.allocation report.target report.round report.outcome

abbrev pub event_text : Event → List ℕ
event_text event = compact_text (event_data event)

abbrev pub is_discovery : Event → Bool
is_discovery (Discover job source targets) = true
is_discovery (Join name reach limits) = false
is_discovery (Leave collector) = false
is_discovery (Drain collector) = false
is_discovery (SetLimits collector limits) = false
is_discovery (Install plan) = false
is_discovery (Spread spread) = false
is_discovery NextRound = false
is_discovery (Take collector) = false
is_discovery (Serve collector job) = false
is_discovery (Release collector job) = false
is_discovery (Report report) = false

-- the tokens of a discovery before its targets
abbrev pub source_tokens : List ℕ → ℕ → List Token
source_tokens job source =
    begin_object ∷ key (codes "event") ∷ token.string (codes "discover") ∷ key (codes "job") ∷ token.string job ∷ key (codes "source") ∷ token.number (decimal source) ∷ key (codes "targets") ∷ []
