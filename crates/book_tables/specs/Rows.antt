-- What is told of a target: an object of JSON in a line. Members stand in byte order of their names.
use Rattle.std.specs.Prelude.{ℕ, ◌+◌, List, [], ◌∷◌, ◌++◌, codes, slice_get}
use Rattle.std.specs.Option.{option_map_or}
use Rattle.std.specs.Fmt.{decimal}
use Rattle.serde_json.specs.Data.{string}
use Rattle.serde_json.specs.Written.{compact_text}
use Rattle.label_sets.specs.Target.{target_text}
use Rattle.fleet.specs.declared.job.JobSpec.{JobSpec}
use Rattle.fleet.specs.declared.known_target.KnownTarget.{KnownTarget}
use Rattle.scrape_books.specs.Books.{page_of}
use Rattle.scrape_books.specs.declared.report.Entry.{Entry}
use Rattle.scrape_books.specs.declared.report.Page.{Page}

-- the name of the job of an index
abbrev pub job_name : List JobSpec → ℕ → List ℕ
job_name jobs job = option_map_or (λ (spec : JobSpec). spec.name) (slice_get jobs job) []

-- the number of the file, and the group as a list has it
abbrev pub place_text : ℕ → List ℕ → List ℕ
place_text file group = codes "{\"file\":" ++ (decimal file ++ (codes ",\"group\":" ++ (group ++ codes ",\"job\":")))

-- the sums over the target's booked reports, and its number in the journal
abbrev pub sums_text : ℕ → Page → List ℕ
sums_text number page =
    codes ",\"reports\":" ++ (decimal page.reports ++ (codes ",\"samples\":" ++ (decimal page.samples
    ++ (codes ",\"target\":" ++ (decimal number ++ (codes ",\"ups\":" ++ (decimal page.ups ++ codes "}\n")))))))

abbrev pub row_text : ℕ → List (ℕ × Entry) → List JobSpec → ℕ → KnownTarget → List ℕ
row_text file booked jobs number known =
    place_text file (target_text known.target) ++ (compact_text (string (job_name jobs known.job)) ++ sums_text number (page_of booked number))

-- a row for each of these targets, of which this is the number of the first
abbrev pub rows_from : ℕ → List (ℕ × Entry) → List JobSpec → ℕ → List KnownTarget → List ℕ
rows_from file booked jobs number [] = []
rows_from file booked jobs number (known ∷ more) = row_text file booked jobs number known ++ rows_from file booked jobs (number + 1) more
