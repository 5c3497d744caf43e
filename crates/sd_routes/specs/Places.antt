-- The places that paths name, their paths, and their methods.
use Rattle.std.specs.Prelude.{ℕ, ◌==◌, ◌&&◌, ◌++◌, List, [], ◌∷◌, Bool, true, false, not, codes, Option, Some, None, if◌then◌else◌, Result, Ok, Err, bytes_eq}
use Rattle.sd_routes.specs.declared.place.Place.{Place}
use Rattle.sd_routes.specs.declared.place.Place.TheVariants.{Status, ScrapeConfigs, Jobs, Job, JobTargets, Uncovered, Targets, Acknowledged, Allocations, Books, Certificate, Collectors, Collector, Drain, Release, Limits, Reports, Healthy, Live, Ready, Leading, Metrics, Reload, Quit}
use Rattle.matchit.specs.Rows.{RowsOf}
use Rattle.matchit.specs.Order.{placed}
use Rattle.matchit.specs.Route.{parse_route, Scan}
use Rattle.matchit.specs.Router.{RouteOf, route_from}
use Rattle.matchit.specs.declared.error.InsertError.{InsertError}
use Rattle.std.specs.Option.{option_map_or}
use Rattle.sd_routes.specs.declared.purpose.Purpose.{Purpose}
use Rattle.sd_routes.specs.declared.purpose.Purpose.TheVariants.{Show, ShowHead, Change}

-- ---- paths: which place each names

-- in a route, what stands for one segment of a path. It is no byte
abbrev pub segment : ℕ
segment = 256

abbrev pub slash : ℕ
slash = 47

-- A row a route. No path fits two of them.
abbrev pub table : List (List ℕ × Place)
table =
    (codes "/-/healthy", Healthy)
    ∷ (codes "/-/leading", Leading)
    ∷ (codes "/-/quit", Quit)
    ∷ (codes "/-/ready", Ready)
    ∷ (codes "/-/reload", Reload)
    ∷ (codes "/acknowledged", Acknowledged)
    ∷ (codes "/allocations", Allocations)
    ∷ (codes "/books", Books)
    ∷ (codes "/certificate", Certificate)
    ∷ (codes "/collectors/" ++ segment ∷ codes "/drain", Drain)
    ∷ (codes "/collectors/" ++ segment ∷ codes "/limits", Limits)
    ∷ (codes "/collectors/" ++ segment ∷ codes "/release", Release)
    ∷ (codes "/collectors/" ++ segment ∷ [], Collector)
    ∷ (codes "/collectors", Collectors)
    ∷ (codes "/jobs/" ++ segment ∷ codes "/targets", JobTargets)
    ∷ (codes "/jobs/" ++ segment ∷ codes "/uncovered", Uncovered)
    ∷ (codes "/jobs/" ++ segment ∷ [], Job)
    ∷ (codes "/jobs", Jobs)
    ∷ (codes "/livez", Live)
    ∷ (codes "/metrics", Metrics)
    ∷ (codes "/readyz", Ready)
    ∷ (codes "/reports", Reports)
    ∷ (codes "/scrape_configs", ScrapeConfigs)
    ∷ (codes "/targets", Targets)
    ∷ (codes "/", Status)
    ∷ []

-- what follows the segment in front, from the next slash on
abbrev pub past_segment : List ℕ → List ℕ
past_segment [] = []
past_segment (b ∷ path) = if b == slash then b ∷ path else past_segment path

-- The path has the form of the route: a byte stands for itself, and a segment for one byte or more up to the next slash or the end.
abbrev pub fits : List ℕ → List ℕ → Bool
fits [] [] = true
fits [] (b ∷ path) = false
fits (token ∷ route) [] = false
fits (token ∷ route) (b ∷ path) = if token == segment then not (b == slash) && fits route (past_segment path) else (token == b) && fits route path

-- what the first row has whose route the path fits
abbrev pub first_fit : {K : Type 0} → List (List ℕ × K) → List ℕ → Option K
first_fit [] path = None
first_fit ((route, place) ∷ rows) path = if fits route path then Some place else first_fit rows path

-- the place that a path names
unfoldable pub place_of : List ℕ → Option Place
place_of path = first_fit table path

-- ---- the same as the rows of a router

abbrev pub added : Result Scan InsertError → Place → RowsOf (RouteOf Place) → RowsOf (RouteOf Place)
added (Ok scan) place rows = placed ((route_from scan place).pattern, route_from scan place) rows
added (Err e) place rows = rows

abbrev pub with_route : List ℕ → Place → RowsOf (RouteOf Place) → RowsOf (RouteOf Place)
with_route text place rows = added (parse_route text) place rows

-- the rows of the page for people, and of jobs and their targets
unfoldable pub job_rows : RowsOf (RouteOf Place)
job_rows =
    with_route (codes "/targets") Targets
    (with_route (codes "/jobs/{job}/uncovered") Uncovered
    (with_route (codes "/jobs/{job}/targets") JobTargets
    (with_route (codes "/jobs/{job}") Job
    (with_route (codes "/jobs") Jobs
    (with_route (codes "/scrape_configs") ScrapeConfigs
    (with_route (codes "/") Status []))))))

-- the rows of all but the service itself
unfoldable pub desk_rows : RowsOf (RouteOf Place)
desk_rows =
    with_route (codes "/reports") Reports
    (with_route (codes "/collectors/{id}/limits") Limits
    (with_route (codes "/collectors/{id}/release") Release
    (with_route (codes "/collectors/{id}/drain") Drain
    (with_route (codes "/collectors/{id}") Collector
    (with_route (codes "/collectors") Collectors
    (with_route (codes "/certificate") Certificate
    (with_route (codes "/books") Books
    (with_route (codes "/allocations") Allocations
    (with_route (codes "/acknowledged") Acknowledged job_rows)))))))))

unfoldable pub route_rows : RowsOf (RouteOf Place)
route_rows =
    with_route (codes "/-/quit") Quit
    (with_route (codes "/-/reload") Reload
    (with_route (codes "/metrics") Metrics
    (with_route (codes "/-/leading") Leading
    (with_route (codes "/readyz") Ready
    (with_route (codes "/-/ready") Ready
    (with_route (codes "/livez") Live
    (with_route (codes "/-/healthy") Healthy desk_rows)))))))

-- ---- methods, and what each is for

-- the place has something to show
abbrev pub is_shown : Place → Bool
is_shown Status = true
is_shown ScrapeConfigs = true
is_shown Jobs = true
is_shown Job = true
is_shown JobTargets = true
is_shown Uncovered = true
is_shown Targets = true
is_shown Acknowledged = true
is_shown Allocations = true
is_shown Books = true
is_shown Certificate = true
is_shown Collectors = true
is_shown Collector = true
is_shown Drain = false
is_shown Release = false
is_shown Limits = false
is_shown Reports = false
is_shown Healthy = true
is_shown Live = true
is_shown Ready = true
is_shown Leading = true
is_shown Metrics = true
is_shown Reload = false
is_shown Quit = false

-- the method that changes something at a place, if there is one
abbrev pub changed_by : Place → Option (List ℕ)
changed_by Status = None
changed_by ScrapeConfigs = None
changed_by Jobs = None
changed_by Job = None
changed_by JobTargets = None
changed_by Uncovered = None
changed_by Targets = None
changed_by Acknowledged = None
changed_by Allocations = None
changed_by Books = None
changed_by Certificate = None
changed_by Collectors = Some (codes "POST")
changed_by Collector = Some (codes "DELETE")
changed_by Drain = Some (codes "POST")
changed_by Release = Some (codes "POST")
changed_by Limits = Some (codes "PUT")
changed_by Reports = Some (codes "POST")
changed_by Healthy = None
changed_by Live = None
changed_by Ready = None
changed_by Leading = None
changed_by Metrics = None
changed_by Reload = Some (codes "POST")
changed_by Quit = Some (codes "POST")

-- What is shown is asked for by GET, and its head alone by HEAD (RFC 9110, sections 9.3.1 and 9.3.2).
abbrev pub purpose_of : Place → List ℕ → Option Purpose
purpose_of place method =
    if is_shown place && bytes_eq method (codes "GET") then Some Show
    else (if is_shown place && bytes_eq method (codes "HEAD") then Some ShowHead
    else (if option_map_or (bytes_eq method) (changed_by place) false then Some Change else None))

abbrev pub allowed_by : Bool → Option (List ℕ) → List ℕ
allowed_by true None = codes "GET, HEAD"
allowed_by true (Some method) = codes "GET, HEAD, " ++ method
allowed_by false None = []
allowed_by false (Some method) = method

-- the methods that a place answers, as the header `allow` has them (RFC 9110, section 10.2.1)
abbrev pub allowed_at : Place → List ℕ
allowed_at place = allowed_by (is_shown place) (changed_by place)
