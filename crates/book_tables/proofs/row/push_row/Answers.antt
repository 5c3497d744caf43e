use Rattle.std.proofs.Common.{◌≡◌, ◌∙◌, ◌++◌, ℕ, List, ap, subst, string_bytes}
use Rattle.std.specs.Prelude.{OnOk}
use Rattle.serde_json.specs.Data.{string}
use Rattle.serde_json.specs.Written.{compact_text}
use Rattle.label_sets.specs.Target.{target_text}
use Rattle.scrape_books.specs.Books.{page_of}
use Rattle.scrape_books.specs.declared.report.Page.{Page}
use Rattle.book_tables.specs.Rows.{job_name, place_text, sums_text}
use Rattle.book_tables.proofs.Texts.{three}
use Rattle.book_tables.proofs.row.push_row.Goals as goal

pub returns : goal.returns
returns c =
    let known = c.args.known.now in
    let t0 = string_bytes c.args.text.now in
    let t1 = string_bytes c.push_place.new.text in
    let t2 = string_bytes c.push_job.new.text in
    let t3 = string_bytes c.push_sums.new.text in
    three c.push_sums.result t0 t1 t2 t3
    (place_text c.args.file (target_text known.target)) (compact_text (string (job_name c.args.jobs.now known.job))) (sums_text c.args.number (page_of c.args.books.now c.args.number))
    (c.in_ok-push_place.ensures ∙ ap (λ (group : List ℕ). t0 ++ place_text c.args.file group) c.text.ensures.text)
    (c.in_ok-push_job.ensures ∙ ap (λ (name : List ℕ). t1 ++ compact_text (string name)) c.job_name.ensures)
    (subst (λ (page : Page). OnOk c.push_sums.result (t3 ≡ t2 ++ sums_text c.args.number page)) c.page.ensures c.push_sums.ensures)
