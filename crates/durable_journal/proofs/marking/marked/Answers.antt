use Rattle.durable_journal.proofs.Beginnings.{put_mark}
use Rattle.durable_journal.proofs.marking.marked.Goals as goal

pub returns-in-Object : goal.returns-in-Object
returns-in-Object c =
    put_mark c.args.document c.in-Object.members c.put.new.map c.in_ok-from_str-in-Object.field-0 c.in-Object.is c.in_ok-put-in-Object.ensures.ok c.in_ok-from_str-in-Object.ensures.ok
