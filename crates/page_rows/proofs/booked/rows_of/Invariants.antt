use Rattle.std.proofs.Common.{◌≡◌, map, take}
use Rattle.fleet.specs.declared.job.JobSpec.{JobSpec}
use Rattle.sd_routes.specs.declared.books_row.JobBooks.{JobBooks}
use Rattle.page_rows.proofs.booked.rows_of.Given as goal

abbrev pub invariant-loop-place : goal.invariant-loop-place
invariant-loop-place l = map (λ (row : JobBooks). row.job) l.rows ≡ map (λ (job : JobSpec). job.name) (take l.place l.jobs)
