use Rattle.durable_journal.proofs.Noted.{put_note}
use Rattle.durable_journal.proofs.by_hand.with_note.Goals as goal

pub returns-in-Object : goal.returns-in-Object
returns-in-Object c =
    put_note c.args.value c.in-Object.members c.put.new.map c.in_ok-from_str-in-Object.field-0 c.in-Object.is c.in_ok-put-in-Object.ensures.ok c.in_ok-from_str-in-Object.ensures.ok
