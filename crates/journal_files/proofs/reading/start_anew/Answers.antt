use Rattle.std.proofs.Common.{◌≡◌}
use Rattle.durable_journal.specs.Epochs.{with_epoch}
use Rattle.journal_files.specs.Starting.{asked_by}
use Rattle.journal_files.proofs.Starts.{begins_anew}
use Rattle.journal_files.proofs.reading.start_anew.Goals as goal

pub returns-in-Ok : goal.returns-in-Ok
returns-in-Ok c =
    let is : c.as_slice.result.now ≡ with_epoch c.args.wanted.line.now c.args.wanted.epoch = cc (c.as_slice.ensures.value, c.in_ok-line.ensures, c.as_bytes.ensures.value) in
    let same : c.as_slice-2.result.now ≡ c.as_slice.result.now = cc (c.as_slice.ensures.value, c.as_slice-2.ensures.value) in
    begins_anew (asked_by c.args.wanted) c.begun_anew.result c.in-Ok.core c.in_ok-first.first c.as_slice.result.now c.as_slice-2.result.now c.in_ok-configured.field-0 is same c.begun_anew.ensures.core c.begun_anew.ensures.epoch c.begun_anew.ensures.next
    c.in_ok-first.ensures c.in-Ok.ensures c.in_ok-configured.ensures.opens c.in_ok-configured.ensures.given
