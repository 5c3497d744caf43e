-- Of which rounds is told what was booked, and what a report counts.
use Rattle.std.specs.Prelude.{◌≡◌, ◌+◌, ◌-◌, ◌^◌, ◌==◌, ◌&&◌, ◌||◌, ℕ, nat_le, nat_lt, min, Bool, List, [], map, Option, Some, None, if◌then◌else◌}
use Rattle.std.specs.List.{list_any}
use Rattle.allocation_core.specs.State.{State}
use Rattle.fleet.specs.declared.job.JobSpec.{JobSpec}
use Rattle.scrape_books.specs.declared.report.Entry.{Entry}
use Rattle.scrape_books.specs.declared.report.Outcome.{Outcome}
use Rattle.scrape_books.specs.declared.report.Outcome.TheVariants.{Up, Down}
use Rattle.sd_routes.specs.declared.books_row.BookCounts.{BookCounts}
use Rattle.sd_routes.specs.declared.books_row.BooksRow.{BooksRow}
use Rattle.sd_routes.specs.declared.books_row.JobBooks.{JobBooks}

-- a report of the round or of an earlier one is booked
abbrev pub has_up_to : ℕ → List (ℕ × Entry) → Bool
has_up_to round booked = list_any (λ (p : ℕ × Entry). nat_le p.1.round round) booked

-- the round is the open one, or is over and not before the first of which a report is booked
abbrev pub is_told : ℕ → List (ℕ × Entry) → ℕ → Bool
is_told open_round booked round = (round == open_round) || (nat_lt round open_round && has_up_to round booked)

-- the last round that is over, where it is not before that
abbrev pub last_over : ℕ → List (ℕ × Entry) → Option ℕ
last_over open_round booked = if nat_lt 0 open_round && has_up_to (open_round - 1) booked then Some (open_round - 1) else None

-- the round that is told of: the one that is asked for, or the last one that is over, if there is one
abbrev pub round_told : ℕ → List (ℕ × Entry) → Option ℕ → Option (Option ℕ)
round_told open_round booked None = Some (last_over open_round booked)
round_told open_round booked (Some round) = if is_told open_round booked round then Some (Some round) else None

-- there is a row for each job, in order, where a round is told of
abbrev pub AreOfJobs : List JobSpec → Option ℕ → List JobBooks → Type 0
AreOfJobs jobs None rows = rows ≡ []
AreOfJobs jobs (Some round) rows = map (λ (row : JobBooks). row.job) rows ≡ map (λ (job : JobSpec). job.name) jobs

-- what is told of a state, where the round that is asked for is to be told of
abbrev pub IsBooks : State → Option ℕ → Option BooksRow → Type 0
IsBooks m asked None = round_told m.round m.booked asked ≡ None
IsBooks m asked (Some row) = (round_told m.round m.booked asked ≡ Some row.round) × ((row.open_round ≡ m.round) × AreOfJobs m.fleet.jobs row.round row.jobs)

-- the number, or the greatest of 64 bits
abbrev pub saturated : ℕ → ℕ
saturated n = min n (2 ^ 64 - 1)

-- the counts with one more report
abbrev pub counted : BookCounts → Outcome → BookCounts
counted counts (Up samples) = record { up = saturated (counts.up + 1); down = counts.down; samples = saturated (counts.samples + samples); missing = counts.missing }
counted counts Down = record { up = counts.up; down = saturated (counts.down + 1); samples = counts.samples; missing = counts.missing }
