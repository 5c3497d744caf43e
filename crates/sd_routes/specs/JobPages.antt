-- The JSON of a job. Members stand in byte order of their names.
use Rattle.std.specs.Prelude.{ℕ, List, codes, Option, Some, None}
use Rattle.serde_json.specs.Data.{Data, null, string, object, no_members, member}
use Rattle.json_values.specs.Spelling.{list_data, number_data}
use Rattle.sd_routes.specs.CollectorPages.{held_data, number_or_null}
use Rattle.sd_routes.specs.Links.{job_link, uncovered_link}
use Rattle.sd_routes.specs.declared.job_row.JobRow.{JobRow}
use Rattle.sd_routes.specs.declared.job_row.SourceRow.{SourceRow}

abbrev pub fault_or_null : Option (List ℕ) → Data
fault_or_null None = null
fault_or_null (Some fault) = string fault

-- a source: why it fails, when it last gave its list, how many targets that has, and how many are left out of it
abbrev pub source_data : SourceRow → Data
source_data source =
    object (member (codes "dropped") (number_or_null source.dropped)
    (member (codes "fault") (fault_or_null source.fault)
    (member (codes "last_success") (number_or_null source.last_success)
    (member (codes "targets") (number_or_null source.targets)
    (member (codes "url") (string source.url)
    (member (codes "without_address") (number_or_null source.without_address) no_members))))))

-- where its targets are
abbrev pub links_data : List ℕ → Data
links_data job =
    object (member (codes "targets") (string (job_link job))
    (member (codes "uncovered") (string (uncovered_link job)) no_members))

-- a job: how many targets it has, its sources, and who holds how many
abbrev pub job_row_data : JobRow → Data
job_row_data row =
    object (member (codes "collectors") (held_data row.held)
    (member (codes "covered") (number_data row.covered)
    (member (codes "handing_over") (number_data row.handing_over)
    (member (codes "job_name") (string row.name)
    (member (codes "links") (links_data row.name)
    (member (codes "live") (number_data row.live)
    (member (codes "sources") (list_data source_data row.sources)
    (member (codes "uncovered") (number_data row.uncovered)
    (member (codes "unreached") (number_data row.unreached) no_members)))))))))
