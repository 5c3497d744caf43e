use Rattle.alloc_desk.specs.Reached.{IsFull}
use Rattle.sd_server.proofs.OpenLemmas.{entered_next, holds_now, moved}
use Rattle.sd_server.proofs.handler.Handler.entered_now.Goals as goal

pub returns-in-Ok-clause-receipt : goal.returns-in-Ok-clause-receipt
returns-in-Ok-clause-receipt g c =
    entered_next g.N.DeskName.opening c.seen.inside.since c.seen.inside.latest c.submit.new.self c.args.seen.now c.args.event _ c.in-Ok.receipt c.seen.view_is c.in-Ok.ensures.entered

pub returns-in-Ok-clause-moves : goal.returns-in-Ok-clause-moves
returns-in-Ok-clause-moves g c =
    moved g.N.DeskName.opening c.seen.inside.since c.seen.inside.latest c.submit.new.self c.args.seen.now c.seen.view_is c.seen.invariant c.in-Ok.ensures.seen

pub returns-in-Err-JournalFull-clause-not : goal.returns-in-Err-JournalFull-clause-not
returns-in-Err-JournalFull-clause-not g c =
    holds_now g.N.DeskName.opening c.seen.inside.since c.seen.inside.latest c.submit.new.self IsFull c.seen.invariant c.submit.ensures.seen (c.submit.ensures.full (cc (c.in-Err-JournalFull.is, c.in-Err-JournalFull.field-0-is)))
