-- The scrape configs of a configuration as its collectors are to use them: an object with a page for each, under the name of its job.
use Rattle.std.specs.Prelude.{ℕ, List, option_and_then, unwrap_or, codes}
use Rattle.std.specs.Option.{option_map_or}
use Rattle.serde_json.specs.Data.{Data, object, Items, no_items, item, Members, no_members, put}
use Rattle.serde_json.specs.Find.{get, as_str, as_array, as_object}
use Rattle.scrape_pages.specs.Kept.{kept_of}
use Rattle.scrape_pages.specs.Requests.{with_request}
use Rattle.scrape_pages.specs.Times.{with_times}

-- none, where there is no such list
abbrev pub entries_of : Data → Items
entries_of document = unwrap_or (option_and_then as_array (get (codes "scrape_configs") document)) no_items

-- the page of an entry that has these members
abbrev pub page_of : Data → Data → Members → Members
page_of document d ms = with_times document d (with_request d (kept_of ms))

-- the pages, with that of an entry under this name, if it is an object
abbrev pub with_named : Data → Members → List ℕ → Data → Members
with_named document pages name d = option_map_or (λ ms. put name (object (page_of document d ms)) pages) (as_object d) pages

-- the pages, with that of an entry under its name, if it has one
abbrev pub with_page : Data → Members → Data → Members
with_page document pages d =
    option_map_or (λ name. with_named document pages name d) (option_and_then as_str (get (codes "job_name") d)) pages

-- the pages, with those of the entries
abbrev pub with_pages : Data → Members → Items → Members
with_pages document pages no_items = pages
with_pages document pages (item d ds) = with_pages document (with_page document pages d) ds

-- of the whole document
abbrev pub collectors_configs_of : Data → Data
collectors_configs_of document = object (with_pages document no_members (entries_of document))
