use Rattle.std.proofs.Common.{option_and_then, ap, ◌∙◌}
use Rattle.std.proofs.lemmas.Result.{IfOk-weaker}
use Rattle.std.specs.List.{list_any}
use Rattle.json_values.specs.Texts.{is_line_feed, json_of}
use Rattle.json_values.proofs.OneLine.{one_line}
use Rattle.json_values.proofs.Texts.{printed, said_by_tokens}
use Rattle.fleet_events.specs.Reading.{event_in}
use Rattle.fleet_events.specs.Writing.{discover_data}
use Rattle.fleet_events.specs.declared.event.Event.TheVariants.{Discover}
use Rattle.fleet_events.proofs.DiscoverLemmas.{discover_event, discover_reads}
use Rattle.fleet_events.proofs.Forms.{event_levels}
use Rattle.fleet_events.proofs.writing.discover_text.Goals as goal

pub returns-in-Ok-clause-form : goal.returns-in-Ok-clause-form
returns-in-Ok-clause-form c =
    let d = discover_data c.args.job.now c.args.source c.args.targets.now in
    IfOk-weaker c.written_text.result _ _ (λ t text. text ∙ printed c.new-out.result.tokens c.put_discover.new.out.tokens d c.new-out.ensures.tokens c.in-Ok.ensures.tokens) c.written_text.ensures.text

pub returns-in-Ok-clause-one_line : goal.returns-in-Ok-clause-one_line
returns-in-Ok-clause-one_line c =
    let d = discover_data c.args.job.now c.args.source c.args.targets.now in
    IfOk-weaker c.written_text.result _ _ (λ t text. ap (list_any is_line_feed) (text ∙ printed c.new-out.result.tokens c.put_discover.new.out.tokens d c.new-out.ensures.tokens c.in-Ok.ensures.tokens) ∙ one_line d) c.written_text.ensures.text

pub returns-in-Ok-clause-reads_back : goal.returns-in-Ok-clause-reads_back
returns-in-Ok-clause-reads_back c =
    let d = discover_data c.args.job.now c.args.source c.args.targets.now in
    let reads = discover_reads c.args.job.now c.args.source c.args.targets.now c.ranges.source.fits c.in-Ok.ensures.said in
    let says = said_by_tokens c.new-out.result.tokens c.put_discover.new.out.tokens d c.new-out.ensures.tokens c.in-Ok.ensures.tokens c.written_text.ensures.tokens c.written_text.ensures.utf8 reads (event_levels (Discover c.args.job.now c.args.source c.args.targets.now)) in
    IfOk-weaker c.written_text.result _ _ (λ t text. ap (option_and_then event_in) (ap json_of text ∙ says) ∙ discover_event c.args.job.now c.args.source c.args.targets.now c.ranges.source.fits c.in-Ok.ensures.said) c.written_text.ensures.text
