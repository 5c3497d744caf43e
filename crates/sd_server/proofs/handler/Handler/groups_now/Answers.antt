use Rattle.std.proofs.Common.{rules}
use Rattle.std.proofs.lemmas.Result.{IfOk-weaker}
use Rattle.sd_server.specs.Listing.{AreKnown}
use Rattle.sd_server.specs.Spans.{now_of}
use Rattle.sd_server.proofs.KnownLemmas.{known_moved}
use Rattle.sd_server.proofs.handler.Handler.groups_now.Goals as goal

pub returns-clause-text : goal.returns-clause-text
returns-clause-text g c =
    let known : AreKnown (now_of c.groups_text.new.seen) c.args.held.now =
    known_moved c.are_known.new.seen c.groups_text.new.seen c.args.held.now c.groups_text.ensures.moves (c.are_known.ensures.known (search rules)) in
    IfOk-weaker c.groups_text.result _ _ (λ text is. (is, known)) c.groups_text.ensures.text
