use Rattle.std.proofs.Common.{◌≤◌, option_and_then, sym, ap, subst, ◌∙◌}
use Rattle.std.proofs.lemmas.Result.{IfOk-weaker}
use Rattle.serde_json.specs.Data.{Data, depth}
use Rattle.serde_json.specs.Read.{max_depth}
use Rattle.serde_json.specs.Written.{has_float, compact_text}
use Rattle.fleet_events.specs.Reading.{event_in}
use Rattle.fleet_events.proofs.Forms.{event_no_float, event_levels}
use Rattle.fleet_events.proofs.event.Event.plain_text.Goals as goal

pub returns-clause-form : goal.returns-clause-form
returns-clause-form c =
    let form = c.in_ok-value.ensures.form in
    IfOk-weaker c.text_of.result _ _ (λ t text. text (ap has_float form ∙ event_no_float c.args.self.now) ∙ ap compact_text form) c.text_of.ensures.form

pub returns-clause-one_line : goal.returns-clause-one_line
returns-clause-one_line c =
    IfOk-weaker c.text_of.result _ _ (λ t line. line (ap has_float c.in_ok-value.ensures.form ∙ event_no_float c.args.self.now)) c.text_of.ensures.one_line

pub returns-clause-reads_back : goal.returns-clause-reads_back
returns-clause-reads_back c =
    let shallow = subst (λ (d : Data). depth d ≤ max_depth) (sym c.in_ok-value.ensures.form) (event_levels c.args.self.now) in
    IfOk-weaker c.text_of.result _ _ (λ t back. ap (option_and_then event_in) (back shallow) ∙ c.in_ok-value.ensures.reads_back) c.text_of.ensures.reads_back
