-- The page of what was booked has no float, so its text is known.
use Rattle.std.proofs.Common.{◌≡◌, false, refl}
use Rattle.std.proofs.lemmas.Bool.{or_from}
use Rattle.serde_json.specs.Written.{has_float}
use Rattle.json_values.proofs.Lists.{no_float}
use Rattle.sd_routes.specs.BooksPages.{books_data, collector_books_data, job_books_data}
use Rattle.sd_routes.specs.declared.books_row.BooksRow.{BooksRow}
use Rattle.sd_routes.specs.declared.books_row.CollectorBooks.{CollectorBooks}
use Rattle.sd_routes.specs.declared.books_row.JobBooks.{JobBooks}
use Rattle.sd_routes.proofs.CollectorFloats.{number_no_float}
use Rattle.sd_routes.proofs.FoundFloats.{holder_no_float}

collector_no_float : (row : CollectorBooks) → has_float (collector_books_data row) ≡ false
collector_no_float row =
    or_from _ _ refl (or_from _ _ refl (or_from _ _ (number_no_float row.counts.missing) (or_from _ _ (holder_no_float row.name) (or_from _ _ refl (or_from _ _ refl refl)))))

job_no_float : (row : JobBooks) → has_float (job_books_data row) ≡ false
job_no_float row =
    or_from _ _ (no_float collector_books_data collector_no_float row.collectors) (or_from _ _ refl (or_from _ _ refl
    (or_from _ _ (number_no_float row.counts.missing) (or_from _ _ refl (or_from _ _ refl refl)))))

pub books_no_float : (row : BooksRow) → has_float (books_data row) ≡ false
books_no_float row = or_from _ _ (no_float job_books_data job_no_float row.jobs) (or_from _ _ refl (or_from _ _ (number_no_float row.round) refl))
