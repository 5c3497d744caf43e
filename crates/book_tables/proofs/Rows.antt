-- Rows that are added to a text one behind the other.
use Rattle.std.proofs.Common.{◌≡◌, ◌∙◌, ◌++◌, ◌+◌, ◌<◌, ℕ, List, ◌∷◌, ap, sym, drop, get_or, length}
use Rattle.std.proofs.lemmas.List.{append_assoc, drop_more}
use Rattle.fleet.specs.declared.job.JobSpec.{JobSpec}
use Rattle.fleet.specs.declared.known_target.KnownTarget.{KnownTarget}
use Rattle.scrape_books.specs.declared.report.Entry.{Entry}
use Rattle.book_tables.specs.Rows.{row_text, rows_from}

-- the target at a place, and those behind it
pub target_at : (told known : List KnownTarget) (i : ℕ) (item : KnownTarget) → told ≡ known → i < length told → item ≡ get_or told i item → drop i known ≡ item ∷ drop (i + 1) known
target_at told known i item same inside is =
    ap (drop i) (sym same) ∙ drop_more told i item inside ∙ ap (λ (k : KnownTarget). k ∷ drop (i + 1) told) (sym is) ∙ ap (λ (ks : List KnownTarget). item ∷ drop (i + 1) ks) same

-- a row more
pub row_on :
    (file : ℕ) (booked told_booked : List (ℕ × Entry)) (jobs told_jobs : List JobSpec) (number told_number : ℕ) (known : KnownTarget) (all more : List KnownTarget) (now new whole : List ℕ)
    → now ++ rows_from file booked jobs number all ≡ whole → all ≡ known ∷ more → told_booked ≡ booked → told_jobs ≡ jobs → told_number ≡ number
    → new ≡ now ++ row_text file told_booked told_jobs told_number known → new ++ rows_from file booked jobs (number + 1) more ≡ whole
row_on file booked told_booked jobs told_jobs number told_number known all more now new whole ahead is same_books same_jobs same_number added =
    let row : new ≡ now ++ row_text file booked jobs number known =
    added ∙ ap (λ (b : List (ℕ × Entry)). now ++ row_text file b told_jobs told_number known) same_books
    ∙ ap (λ (js : List JobSpec). now ++ row_text file booked js told_number known) same_jobs ∙ ap (λ (n : ℕ). now ++ row_text file booked jobs n known) same_number in
    let rest = rows_from file booked jobs (number + 1) more in
    ap (λ (t : List ℕ). t ++ rest) row ∙ append_assoc now (row_text file booked jobs number known) rest
    ∙ ap (λ (ks : List KnownTarget). now ++ rows_from file booked jobs number ks) (sym is) ∙ ahead
