-- The JSON of what was booked in a round. Members stand in byte order of their names.
use Rattle.std.specs.Prelude.{codes}
use Rattle.serde_json.specs.Data.{Data, string, object, no_members, member}
use Rattle.json_values.specs.Spelling.{list_data, number_data}
use Rattle.sd_routes.specs.CollectorPages.{number_or_null}
use Rattle.sd_routes.specs.FoundPages.{holder_data}
use Rattle.sd_routes.specs.declared.books_row.BooksRow.{BooksRow}
use Rattle.sd_routes.specs.declared.books_row.CollectorBooks.{CollectorBooks}
use Rattle.sd_routes.specs.declared.books_row.JobBooks.{JobBooks}

-- what a collector reported of a job, with its name where it is live
abbrev pub collector_books_data : CollectorBooks → Data
collector_books_data row =
    object (member (codes "down") (number_data row.counts.down)
    (member (codes "id") (number_data row.id)
    (member (codes "missing") (number_or_null row.counts.missing)
    (member (codes "name") (holder_data row.name)
    (member (codes "samples") (number_data row.counts.samples)
    (member (codes "up") (number_data row.counts.up) no_members))))))

-- what all of them reported of a job, and each
abbrev pub job_books_data : JobBooks → Data
job_books_data row =
    object (member (codes "collectors") (list_data collector_books_data row.collectors)
    (member (codes "down") (number_data row.counts.down)
    (member (codes "job") (string row.job)
    (member (codes "missing") (number_or_null row.counts.missing)
    (member (codes "samples") (number_data row.counts.samples)
    (member (codes "up") (number_data row.counts.up) no_members))))))

-- what was booked in a round, and which round is open
abbrev pub books_data : BooksRow → Data
books_data row =
    object (member (codes "jobs") (list_data job_books_data row.jobs)
    (member (codes "open") (number_data row.open_round)
    (member (codes "round") (number_or_null row.round) no_members)))
