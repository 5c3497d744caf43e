-- The JSON of targets that were searched for. Members stand in byte order of their names.
use Rattle.std.specs.Prelude.{ℕ, List, codes, Option, Some, None}
use Rattle.serde_json.specs.Data.{Data, null, boolean, string, object, no_members, member}
use Rattle.json_values.specs.Spelling.{list_data, number_data}
use Rattle.sd_routes.specs.CollectorPages.{number_or_null}
use Rattle.sd_routes.specs.Pages.{labels_data}
use Rattle.sd_routes.specs.declared.found_targets.FoundTarget.{FoundTarget}

-- the name of the collector that holds it, if one does
abbrev pub holder_data : Option (List ℕ) → Data
holder_data None = null
holder_data (Some name) = string name

-- a target, with the labels that it has in a list
abbrev pub target_data : FoundTarget → Data
target_data found =
    object (member (codes "collector") (holder_data found.collector)
    (member (codes "handing_over") (boolean found.handing_over)
    (member (codes "job") (string found.job)
    (member (codes "labels") (labels_data found.target.target.labels found.target.number)
    (member (codes "last_round") (number_or_null found.last_round)
    (member (codes "since") (number_or_null found.since)
    (member (codes "target") (string found.target.target.address) no_members)))))))

-- how many there are, and the first of them
abbrev pub found_data : ℕ → List FoundTarget → Data
found_data all found = object (member (codes "all") (number_data all) (member (codes "targets") (list_data target_data found) no_members))
