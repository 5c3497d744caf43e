use Rattle.std.proofs.Common.{◌≡◌, ℕ, List, IfSome, subst}
use Rattle.durable_journal.specs.Marks.{found_in}
use Rattle.durable_journal.specs.declared.recovering.Recovered.{Recovered}
use Rattle.journal_files.specs.Starting.{Starts, asked_by}
use Rattle.journal_files.proofs.Starts.{starts_in}
use Rattle.journal_files.proofs.reading.read_journal.Goals as goal

pub returns-in-Ok : goal.returns-in-Ok
returns-in-Ok g c =
    let known = g.F.Read.remaining c.args.file.now in
    let asked = asked_by c.args.wanted in
    let begun = c.in-Ok.begun in
    starts_in asked known c.in-Found.lines begun c.start_of.result c.in-Found.chain c.in-Found.whole c.in-Found.torn c.start_of.ensures
    (subst (λ (r : Recovered). IfSome known (λ bytes. r ≡ found_in bytes)) c.in-Found.is c.in_ok-lines.ensures)
    (subst (λ (t : List ℕ). Starts asked t begun.core begun.past.epoch begun.next) c.as_slice.ensures c.in-Ok.ensures)
