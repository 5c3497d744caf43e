-- Whose a scrape is where targets share a series: that one's whose last scrape began then, by what Prometheus tells of each target that it scrapes.
use Rattle.std.specs.Prelude.{ℕ, ◌-◌, ◌==◌, ◌&&◌, Bool, false, List, [], ◌∷◌, ◌++◌, Option, Some, None, nat_le, count_by, position, option_and_then, option_map, slice_get, if◌then◌else◌}
use Rattle.std.specs.List.{cons_option, list_all}
use Rattle.std.specs.Option.{option_map_or}
use Rattle.std.specs.Str.{bytes_eq}
use Rattle.agent_core.specs.Targets.{same_series}
use Rattle.agent_core.specs.Choices.{points_of}
use Rattle.agent_core.specs.declared.target.Series.{Series}
use Rattle.agent_core.specs.declared.target.Listed.{Listed}
use Rattle.agent_core.specs.declared.slot.Point.{Point}
use Rattle.agent_core.specs.declared.url.Parameter.{Parameter}
use Rattle.agent_core.specs.declared.url.Url.{Url}
use Rattle.agent_core.specs.declared.sharing.LastScrape.{LastScrape}
use Rattle.agent_core.specs.declared.sharing.Offer.{Offer}

-- ---- a target, and what is scraped

-- the first value of a parameter is the wanted one
abbrev pub has_parameter : List Parameter → Parameter → Bool
has_parameter [] wanted = false
has_parameter (parameter ∷ scraped) wanted = if bytes_eq parameter.name wanted.name then bytes_eq parameter.value wanted.value else has_parameter scraped wanted

-- each of the wanted ones
abbrev pub has_parameters : List Parameter → List Parameter → Bool
has_parameters scraped wanted = list_all (has_parameter scraped) wanted

-- A target's URL is the one that is scraped. That may have parameters of its own, which the job has in Prometheus.
abbrev pub is_url : Url → Url → Bool
is_url url scraped = bytes_eq url.base scraped.base && has_parameters scraped.parameters url.parameters

-- the job of what is scraped is this one
abbrev pub is_job : Option ℕ → ℕ → Bool
is_job job index = option_map_or (λ j. j == index) job false

-- a last scrape of a series is of this target, which shares it
abbrev pub is_of : Series → LastScrape → Listed → Bool
is_of series last listed = listed.shared && (is_job last.job listed.job && (same_series listed.series series && is_url listed.url last.url))

-- ---- a point, and whose it is

-- two times are within so many milliseconds
abbrev pub is_near : ℕ → ℕ → ℕ → Bool
is_near span a b = nat_le (a - b) span && nat_le (b - a) span

-- the place of the only one that passes a test
abbrev pub only : {A : Type 0} → (A → Bool) → List A → Option ℕ
only test xs = if count_by test xs == 1 then position test xs else None

-- the last scrape that began within 2 ms of a time, where no other one did: so no two within 1 ms of each other are told apart
abbrev pub last_at : List LastScrape → ℕ → Option ℕ
last_at lasts time = only (λ (last : LastScrape). is_near 2 last.time time) lasts

-- a scrape that began at a time is the point at another one: they are within 1 ms, and no other point is
abbrev pub is_point : List Point → ℕ → ℕ → Bool
is_point points began time = is_near 1 began time && (count_by (λ (point : Point). is_near 1 began point.time) points == 1)

-- the target at a place has no other last scrape
abbrev pub has_one : Series → List Listed → List LastScrape → ℕ → Bool
has_one series targets lasts place = option_map_or (λ (listed : Listed). count_by (λ (last : LastScrape). is_of series last listed) lasts == 1) (slice_get targets place) false

-- the place of the target that a last scrape is of, where it is of no other, and no other one is of that target
abbrev pub scraped_at : Series → List Listed → List LastScrape → LastScrape → Option ℕ
scraped_at series targets lasts last = option_and_then (λ place. if has_one series targets lasts place then Some place else None) (only (is_of series last) targets)

abbrev pub owner_by : Series → List Listed → List LastScrape → List Point → ℕ → LastScrape → Option ℕ
owner_by series targets lasts points time last = if is_point points last.time time then scraped_at series targets lasts last else None

-- the place of the target whose the point of a series at a time is
abbrev pub owner_of : Series → List Listed → List LastScrape → List Point → ℕ → Option ℕ
owner_of series targets lasts points time =
    option_and_then (λ place. option_and_then (owner_by series targets lasts points time) (slice_get lasts place)) (last_at lasts time)

-- ---- all points that are somebody's

abbrev pub offer_of : Series → List Listed → List LastScrape → List Point → Point → Option Offer
offer_of series targets lasts points point = option_map (λ (place : ℕ). record { place = place; point = point }) (owner_of series targets lasts points point.time)

-- of these points of a series, in their order
abbrev pub offers_of : Series → List Listed → List LastScrape → List Point → List Point → List Offer
offers_of series targets lasts points [] = []
offers_of series targets lasts points (point ∷ rest) = cons_option (offer_of series targets lasts points point) (offers_of series targets lasts points rest)

-- of all series
abbrev pub offers : List (Series × List Point) → List Listed → List (Series × List LastScrape) → List Offer
offers said targets [] = []
offers said targets (entry ∷ lasts) = offers_of entry.0 targets entry.1 (points_of said entry.0) (points_of said entry.0) ++ offers said targets lasts
