-- What each page says of a scrape. Where a scrape config does not, Prometheus's configuration documentation, `<scrape_config>`, does:
-- `metrics_path` is `/metrics`, `scheme` is `http` and `honor_labels` is false.
use Rattle.std.specs.Prelude.{false, unwrap_or, codes}
use Rattle.serde_json.specs.Data.{Data, boolean, Members, put}
use Rattle.serde_json.specs.Find.{get}
use Rattle.scrape_pages.specs.Found.{text_or}

-- whether the labels of an answer stand, where they are those of its target too
abbrev pub labels_of : Data → Data
labels_of d = unwrap_or (get (codes "honor_labels") d) (boolean false)

-- the members, with what is asked for and what becomes of the labels that are answered
abbrev pub with_request : Data → Members → Members
with_request d ms =
    put (codes "honor_labels") (labels_of d)
    (put (codes "scheme") (text_or (codes "http") (get (codes "scheme") d))
    (put (codes "metrics_path") (text_or (codes "/metrics") (get (codes "metrics_path") d)) ms))
