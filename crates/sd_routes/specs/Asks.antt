-- What a method and a target ask for.
use Rattle.std.specs.Prelude.{ℕ, ◌&&◌, List, [], ◌∷◌, codes, Bool, true, false, Option, Some, None, Result, Ok, Err, if◌then◌else◌}
use Rattle.std.specs.Char.{is_ascii_digit}
use Rattle.std.specs.List.{list_all}
use Rattle.reach_rules.specs.Name.{is_collector_name}
use Rattle.sd_routes.specs.Decimals.{decimal_in}
use Rattle.sd_routes.specs.Places.{place_of, purpose_of}
use Rattle.sd_routes.specs.Queries.{flag_of, number_of, value_of}
use Rattle.sd_routes.specs.Segments.{second_segment, text_in}
use Rattle.sd_routes.specs.declared.decimal.TheConstants.{MOST_OF_32_BITS, MOST_OF_64_BITS}
use Rattle.sd_routes.specs.declared.access.Access.{Access}
use Rattle.sd_routes.specs.declared.access.Access.TheVariants.{Shown, Noted, Looked, Taken, Reported, Changed}
use Rattle.sd_routes.specs.declared.acknowledgement.Acknowledgement.{Acknowledgement}
use Rattle.sd_routes.specs.declared.ask.Ask.{Ask}
use Rattle.sd_routes.specs.declared.ask.Ask.TheVariants.{Status, ScrapeConfigs, Jobs, Job, JobTargets, CollectorTargets, Uncovered, FindTargets, Acknowledged, Allocations, Books, Certificate, Collectors, Collector, Join, Leave, Drain, Release, SetLimits, Report, Healthy, Live, Ready, Leading, Metrics, Reload, Quit}
use Rattle.sd_routes.specs.declared.place.Place.{Place}
use Rattle.sd_routes.specs.declared.place.Place.TheVariants as place
use Rattle.sd_routes.specs.declared.purpose.Purpose.{Purpose}
use Rattle.sd_routes.specs.declared.purpose.Purpose.TheVariants.{Show, Change}
use Rattle.sd_routes.specs.declared.request_error.RequestError.{RequestError}
use Rattle.sd_routes.specs.declared.request_error.RequestError.TheVariants.{NoRoute, Method, Shape, BadName}
use Rattle.sd_routes.specs.declared.which_collector.WhichCollector.{WhichCollector}
use Rattle.sd_routes.specs.declared.which_collector.WhichCollector.TheVariants.{Number, Name}

-- What is shown is given and noted; where only the head is asked for, nothing is (RFC 9110, section 9.2.1: HEAD is safe).
abbrev pub is_show : Purpose → Bool
is_show Show = true
is_show _ = false

-- the name that a text is
abbrev pub name_said : List ℕ → Result (List ℕ) RequestError
name_said text = if is_collector_name text then Ok text else Err BadName

-- one collector's targets, which it takes, or which are only shown
abbrev pub held_by : Purpose → List ℕ → Result Bool RequestError → Result (List ℕ) RequestError → Result Ask RequestError
held_by purpose job (Err e) name = Err e
held_by purpose job (Ok takes) (Err e) = Err e
held_by purpose job (Ok takes) (Ok name) = Ok (CollectorTargets job name (is_show purpose && takes))

-- it takes them unless `take=false` says otherwise, or only the head is asked for
abbrev pub held_asked : Purpose → List ℕ → List ℕ → Option (List ℕ) → Result Ask RequestError
held_asked purpose job name query = held_by purpose job (flag_of (codes "take") true query) (name_said name)

-- the targets of a job, or of one collector where the query names it
abbrev pub targets_of : Purpose → List ℕ → Option (List ℕ) → Option (List ℕ) → Result Ask RequestError
targets_of purpose job None query = Ok (JobTargets job)
targets_of purpose job (Some name) query = held_asked purpose job name query

abbrev pub targets_by : Purpose → Option (List ℕ) → Option (List ℕ) → Result Ask RequestError
targets_by purpose None query = Err Shape
targets_by purpose (Some job) query = targets_of purpose job (value_of (codes "collector_id") query) query

abbrev pub job_targets_asked : Purpose → List ℕ → Option (List ℕ) → Result Ask RequestError
job_targets_asked purpose path query = targets_by purpose (text_in (second_segment path)) query

-- the scrape configs, with the rules of relabelling as they were read where `rules=true` says so
abbrev pub configs_by : Result Bool RequestError → Result Ask RequestError
configs_by (Err e) = Err e
configs_by (Ok rules) = Ok (ScrapeConfigs rules)

abbrev pub scrape_configs_asked : Option (List ℕ) → Result Ask RequestError
scrape_configs_asked query = configs_by (flag_of (codes "rules") false query)

-- a job
abbrev pub job_of : Option (List ℕ) → Result Ask RequestError
job_of None = Err Shape
job_of (Some job) = Ok (Job job)

abbrev pub job_asked : List ℕ → Result Ask RequestError
job_asked path = job_of (text_in (second_segment path))

-- the targets of a job that nobody holds
abbrev pub uncovered_of : Option (List ℕ) → Result Ask RequestError
uncovered_of None = Err Shape
uncovered_of (Some job) = Ok (Uncovered job)

abbrev pub uncovered_asked : List ℕ → Result Ask RequestError
uncovered_asked path = uncovered_of (text_in (second_segment path))

-- the targets that have a text, which is not empty
abbrev pub found_by : Option (List ℕ) → Result Ask RequestError
found_by None = Err Shape
found_by (Some []) = Err Shape
found_by (Some (b ∷ text)) = Ok (FindTargets (b ∷ text))

abbrev pub targets_asked : Option (List ℕ) → Result Ask RequestError
targets_asked query = found_by (value_of (codes "search") query)

-- the books of the round that one digit or more write, where they write a number
abbrev pub books_numbered : Option ℕ → Result Ask RequestError
books_numbered None = Err Shape
books_numbered (Some round) = Ok (Books (Some round))

-- the books of a round, or of the last one that is over
abbrev pub books_by : Option (List ℕ) → Result Ask RequestError
books_by None = Ok (Books None)
books_by (Some digits) = books_numbered (decimal_in MOST_OF_32_BITS digits)

abbrev pub books_asked : Option (List ℕ) → Result Ask RequestError
books_asked query = books_by (value_of (codes "round") query)

-- that a collector follows a list, which is noted unless only the head is asked for
abbrev pub followed : Purpose → Option ℕ → Option ℕ → Option ℕ → Option (List ℕ) → Result Ask RequestError
followed purpose None list epoch job = Err Shape
followed purpose (Some collector) None epoch job = Err Shape
followed purpose (Some collector) (Some list) None job = Err Shape
followed purpose (Some collector) (Some list) (Some epoch) None = Err Shape
followed purpose (Some collector) (Some list) (Some epoch) (Some job) =
    Ok (Acknowledged (record { collector = collector; job = job; list = list; epoch = epoch }) (is_show purpose))

-- which list, the query says
abbrev pub acknowledged_asked : Purpose → Option (List ℕ) → Result Ask RequestError
acknowledged_asked purpose query =
    followed purpose (number_of MOST_OF_32_BITS (codes "collector") query) (number_of MOST_OF_32_BITS (codes "list") query)
    (number_of MOST_OF_64_BITS (codes "epoch") query) (value_of (codes "job") query)

-- ---- collectors

abbrev pub numbered : Option ℕ → Result WhichCollector RequestError
numbered None = Err Shape
numbered (Some id) = Ok (Number id)

abbrev pub of_name : Result (List ℕ) RequestError → Result WhichCollector RequestError
of_name (Err e) = Err e
of_name (Ok name) = Ok (Name name)

abbrev pub named : Option (List ℕ) → Result WhichCollector RequestError
named None = Err Shape
named (Some text) = of_name (name_said text)

-- Digits alone are a collector's number, and all else is a name, which is escaped as a form's value is.
abbrev pub which_of : List ℕ → Result WhichCollector RequestError
which_of segment = if list_all is_ascii_digit segment then numbered (decimal_in MOST_OF_32_BITS segment) else named (text_in segment)

-- the collector that a path means
abbrev pub which_in : List ℕ → Result WhichCollector RequestError
which_in path = which_of (second_segment path)

abbrev pub asked_of : (WhichCollector → Ask) → Result WhichCollector RequestError → Result Ask RequestError
asked_of ask (Ok collector) = Ok (ask collector)
asked_of ask (Err e) = Err e

-- the live collectors, or that one joins
abbrev pub collectors_asked : Purpose → Ask
collectors_asked Change = Join
collectors_asked _ = Collectors

-- one of them, or that it leaves
abbrev pub collector_ask : Purpose → WhichCollector → Ask
collector_ask Change collector = Leave collector
collector_ask _ collector = Collector collector

abbrev pub collector_asked : Purpose → List ℕ → Result Ask RequestError
collector_asked purpose path = asked_of (collector_ask purpose) (which_in path)

-- ---- all of them

-- 400 by path or query
abbrev pub asked_at : Place → Purpose → List ℕ → Option (List ℕ) → Result Ask RequestError
asked_at place.Status purpose path query = Ok Status
asked_at place.ScrapeConfigs purpose path query = scrape_configs_asked query
asked_at place.Jobs purpose path query = Ok Jobs
asked_at place.Job purpose path query = job_asked path
asked_at place.JobTargets purpose path query = job_targets_asked purpose path query
asked_at place.Uncovered purpose path query = uncovered_asked path
asked_at place.Targets purpose path query = targets_asked query
asked_at place.Acknowledged purpose path query = acknowledged_asked purpose query
asked_at place.Allocations purpose path query = Ok Allocations
asked_at place.Books purpose path query = books_asked query
asked_at place.Certificate purpose path query = Ok Certificate
asked_at place.Collectors purpose path query = Ok (collectors_asked purpose)
asked_at place.Collector purpose path query = collector_asked purpose path
asked_at place.Drain purpose path query = asked_of Drain (which_in path)
asked_at place.Release purpose path query = asked_of Release (which_in path)
asked_at place.Limits purpose path query = asked_of SetLimits (which_in path)
asked_at place.Reports purpose path query = Ok Report
asked_at place.Healthy purpose path query = Ok Healthy
asked_at place.Live purpose path query = Ok Live
asked_at place.Ready purpose path query = Ok Ready
asked_at place.Leading purpose path query = Ok Leading
asked_at place.Metrics purpose path query = Ok Metrics
asked_at place.Reload purpose path query = Ok Reload
asked_at place.Quit purpose path query = Ok Quit

abbrev pub asked_for : Place → Option Purpose → List ℕ → Option (List ℕ) → Result Ask RequestError
asked_for place None path query = Err (Method place)
asked_for place (Some purpose) path query = asked_at place purpose path query

-- 404 by path, and then 405
abbrev pub asked_by : Option Place → List ℕ → List ℕ → Option (List ℕ) → Result Ask RequestError
asked_by None method path query = Err NoRoute
asked_by (Some place) method path query = asked_for place (purpose_of place method) path query

abbrev pub asked : List ℕ → List ℕ → Option (List ℕ) → Result Ask RequestError
asked method path query = asked_by (place_of path) method path query

-- ---- of which kind it is

-- Pages and figures are only shown. A collector's list is taken or looked at.
abbrev pub access_of : Ask → Access
access_of Status = Shown
access_of (ScrapeConfigs rules) = Shown
access_of Jobs = Shown
access_of (Job job) = Shown
access_of (JobTargets job) = Shown
access_of (CollectorTargets job name takes) = if takes then Taken else Looked
access_of (Uncovered job) = Shown
access_of (FindTargets text) = Shown
access_of (Acknowledged told counts) = if counts then Noted else Shown
access_of Allocations = Shown
access_of (Books round) = Shown
access_of Certificate = Shown
access_of Collectors = Shown
access_of (Collector collector) = Shown
access_of Join = Changed
access_of (Leave collector) = Changed
access_of (Drain collector) = Changed
access_of (Release collector) = Changed
access_of (SetLimits collector) = Changed
access_of Report = Reported
access_of Healthy = Shown
access_of Live = Shown
access_of Ready = Shown
access_of Leading = Shown
access_of Metrics = Shown
access_of Reload = Changed
access_of Quit = Changed

-- whose list it is
abbrev pub taker_of : Ask → Option (List ℕ)
taker_of (CollectorTargets job name takes) = Some name
taker_of _ = None
