use Rattle.std.proofs.Common.{◌≡◌, take}
use Rattle.serde_json.specs.View.{items_view}
use Rattle.json_values.specs.Spelling.{items_data}
use Rattle.sd_routes.specs.BooksPages.{job_books_data}
use Rattle.sd_routes.proofs.books_row.job_values.Given as goal

abbrev pub invariant-loop-row : goal.invariant-loop-row
invariant-loop-row l = items_view l.values.items ≡ items_data job_books_data (take l.row-index l.rows)
