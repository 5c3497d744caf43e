use Rattle.std.proofs.Common.{◌∙◌, ◌+◌, ap, drop, string_bytes}
use Rattle.fleet.specs.Fleet.{FleetState}
use Rattle.book_tables.proofs.Rows.{row_on, target_at}
use Rattle.book_tables.proofs.journal.push_rows.Goals as goal

pub loop-number-preserved : goal.loop-number-preserved
loop-number-preserved c =
    let core = c.args.core.now in
    let known = core.fleet.known in
    let number = c.loop-number.number in
    let told = c.known-known.ensures ∙ ap (λ (f : FleetState). f.known) c.fleet-2.ensures in
    row_on c.args.file core.booked c.books.result.now core.fleet.jobs c.jobs-jobs.result.now number c.id_of.result c.index-known-number.result (drop number known) (drop (number + 1) known)
    (string_bytes c.loop-number.text) (string_bytes c.push_row.new.text) _ c.loop-number.invariant
    (target_at c.known-known.result.now known number c.index-known-number.result told c.loop-number-test.true c.index-known-number.is)
    c.books.ensures (c.jobs-jobs.ensures.jobs ∙ ap (λ (f : FleetState). f.jobs) c.fleet.ensures) c.id_of.ensures c.in_ok-push_row.ensures
