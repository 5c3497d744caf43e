-- Discovery by files in the document of a configuration (Prometheus's configuration documentation, `<file_sd_config>`): each entry of
-- `file_sd_configs` of a scrape config, told as an entry of its `http_sd_configs`, behind those that are there. Its URL is `file:` and the
-- paths, a line each.
use Rattle.std.specs.Prelude.{ℕ, List, [], ◌∷◌, ◌++◌, Bool, Option, option_and_then, unwrap_or, codes, if◌then◌else◌}
use Rattle.std.specs.Option.{option_map_or}
use Rattle.std.specs.Str.{bytes_eq}
use Rattle.json_values.specs.Members.{members_but}
use Rattle.serde_json.specs.Data.{Data, string, array, object, Items, no_items, item, Members, no_members, member, put}
use Rattle.serde_json.specs.Find.{get, as_str, as_array, as_object}

-- the items of a list, none where it is no list
abbrev pub items_in : Option Data → Items
items_in found = unwrap_or (option_and_then as_array found) no_items

-- ---- a source

-- each text with a line end
abbrev pub lines_from : List ℕ → Items → List ℕ
lines_from before no_items = before
lines_from before (item d ds) = lines_from (before ++ option_map_or (λ text. text ++ 10 ∷ []) (as_str d) []) ds

abbrev pub url_of : Data → List ℕ
url_of d = lines_from (codes "file:") (items_in (get (codes "files") d))

-- its interval is five minutes where it has none
abbrev pub source_of : Data → Data
source_of d =
    object (put (codes "refresh_interval") (unwrap_or (get (codes "refresh_interval") d) (string (codes "5m"))) (put (codes "url") (string (url_of d)) no_members))

-- the items, and the sources of the entries behind them
abbrev pub with_entries : Items → Items → Items
with_entries no_items no_items = no_items
with_entries no_items (item d ds) = item (source_of d) (with_entries no_items ds)
with_entries (item d ds) entries = item d (with_entries ds entries)

-- ---- a scrape config

abbrev pub is_files : List ℕ → Bool
is_files name = bytes_eq name (codes "file_sd_configs")

abbrev pub others_of : Members → Members
others_of = members_but is_files

abbrev pub members_with : Data → Items → Members → Members
members_with d entries ms =
    put (codes "http_sd_configs") (array (with_entries (items_in (get (codes "http_sd_configs") d)) entries)) (others_of ms)

-- what is no object, or has no list of such entries, stays as it is
abbrev pub with_entries_of : Data → Items → Data
with_entries_of d entries = option_map_or (λ ms. object (members_with d entries ms)) (as_object d) d

abbrev pub job_with : Data → Data
job_with d = option_map_or (with_entries_of d) (option_and_then as_array (get (codes "file_sd_configs") d)) d

-- ---- the document

abbrev pub jobs_with : Items → Items
jobs_with no_items = no_items
jobs_with (item d ds) = item (job_with d) (jobs_with ds)

-- what is an object has this list of jobs
abbrev pub put_jobs : Data → Items → Data
put_jobs d jobs = option_map_or (λ ms. object (put (codes "scrape_configs") (array jobs) ms)) (as_object d) d

abbrev pub with_jobs : Data → Items → Data
with_jobs d jobs = put_jobs d (jobs_with jobs)

abbrev pub document_with : Data → Data
document_with d = option_map_or (with_jobs d) (option_and_then as_array (get (codes "scrape_configs") d)) d
