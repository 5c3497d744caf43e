-- How often the targets of a scrape config are asked, and how long an answer may take (Prometheus's configuration documentation,
-- `<scrape_config>` and `global`: the interval is `1m` and the timeout `10s` where neither says another; "It cannot be greater than the
-- scrape interval."). As in Prometheus a timeout that a place does not give itself is shortened to the interval of that place.
use Rattle.std.specs.Prelude.{ℕ, List, Bool, false, Option, Some, None, option_and_then, unwrap_or, nat_lt, codes, if◌then◌else◌}
use Rattle.serde_json.specs.Data.{Data, string, Members, put}
use Rattle.serde_json.specs.Find.{get, as_str}
use Rattle.service_settings.specs.Durations.{duration_said}
use Rattle.scrape_pages.specs.Found.{text_or}

abbrev pub of_global : List ℕ → Data → Option Data
of_global name document = option_and_then (get name) (get (codes "global") document)

-- ---- durations

-- in milliseconds
abbrev pub length_of : Data → Option ℕ
length_of d = option_and_then duration_said (as_str d)

-- both are durations, and the first is longer
abbrev pub are_longer : Option ℕ → Option ℕ → Bool
are_longer None other = false
are_longer (Some length) None = false
are_longer (Some length) (Some least) = nat_lt least length

abbrev pub is_longer : Data → Data → Bool
is_longer d other = are_longer (length_of d) (length_of other)

-- the timeout, or the interval where that is shorter
abbrev pub no_longer : Data → Data → Data
no_longer interval timeout = if is_longer timeout interval then interval else timeout

-- ---- of `global`

abbrev pub interval_of_global : Data → Data
interval_of_global document = text_or (codes "1m") (of_global (codes "scrape_interval") document)

abbrev pub usual_timeout : Data → Data
usual_timeout document = no_longer (interval_of_global document) (string (codes "10s"))

abbrev pub timeout_of_global : Data → Data
timeout_of_global document = unwrap_or (of_global (codes "scrape_timeout") document) (usual_timeout document)

-- ---- of a scrape config

abbrev pub interval_of : Data → Data → Data
interval_of document d = unwrap_or (get (codes "scrape_interval") d) (interval_of_global document)

abbrev pub timeout_of : Data → Data → Data
timeout_of document d =
    unwrap_or (get (codes "scrape_timeout") d) (no_longer (interval_of document d) (timeout_of_global document))

-- the members, with both
abbrev pub with_times : Data → Data → Members → Members
with_times document d ms =
    put (codes "scrape_timeout") (timeout_of document d) (put (codes "scrape_interval") (interval_of document d) ms)
