use Rattle.std.proofs.Common.{◌≡◌, ◌∙◌, inl, inr, refl, ap}
use Rattle.serde_json.specs.Written.{compact_text}
use Rattle.agent_core.specs.Agents.{Asked, Cut, reported}
use Rattle.agent_core.specs.Told.{Told}
use Rattle.agent_documents.specs.States.{state_data}
use Rattle.agent_turns.proofs.ActLemmas.{overs, posted, quiet, told_of, unwritten}
use Rattle.agent_turns.proofs.reporting.report_all.Goals as goal

pub returns-in_err-reports : goal.returns-in_err-reports
returns-in_err-reports g c =
    let count = c.in_err-reports.ensures.err.0 in
    let more = c.in_err-reports.ensures.err.1.0 in
    record {
      input = Cut c.args.now c.args.said.now.entries c.args.lasts.now.entries count more;
      is = inr (count, (more, refl));
      acts = quiet g.O.Outside.may_act c.args.outside.now _ _;
      state = inl c.in_err-reports.ensures.err.1.1;
    }

pub returns-then-is_empty : goal.returns-then-is_empty
returns-then-is_empty g c =
    record { input = Asked c.args.now c.args.said.now.entries c.args.lasts.now.entries; is = inl refl; acts = quiet g.O.Outside.may_act c.args.outside.now _ _; state = inl c.in_ok-reports.ensures.state }

pub returns-in_err-text : goal.returns-in_err-text
returns-in_err-text g c =
    record { input = Asked c.args.now c.args.said.now.entries c.args.lasts.now.entries; is = inl refl; acts = quiet g.O.Outside.may_act c.args.outside.now _ _; state = inl c.in_ok-reports.ensures.state }

pub returns-then-not-write : goal.returns-then-not-write
returns-then-not-write g c =
    let told = c.choose.new.self.told in
    let text : c.as_str.result.now ≡ compact_text (state_data told) = c.as_str.ensures ∙ c.in_ok-text.ensures ∙ ap (λ (t : Told). compact_text (state_data t)) c.memory.ensures in
    let asked = Asked c.args.now c.args.said.now.entries c.args.lasts.now.entries in
    record {
      input = asked;
      is = inl refl;
      acts = unwritten g.O.Outside.may_act c.args.outside.now c.write.new.self c.as_str.result.now c.write.result told (reported c.args.agent.now asked) text c.if-not-write.true c.write.ensures;
      state = inl c.in_ok-reports.ensures.state;
    }

pub returns : goal.returns
returns g c =
    let told = c.choose.new.self.told in
    let text : c.as_str.result.now ≡ compact_text (state_data told) = c.as_str.ensures ∙ c.in_ok-text.ensures ∙ ap (λ (t : Told). compact_text (state_data t)) c.memory.ensures in
    let asked = Asked c.args.now c.args.said.now.entries c.args.lasts.now.entries in
    record {
      input = asked;
      is = inl refl;
      acts = posted g.O.Outside.may_act c.args.outside.now c.write.new.self c.post_all.new.outside c.as_str.result.now c.write.result told c.post_all.new.agent.told c.as_slice.result.now (reported c.args.agent.now asked) text c.if-not-write.false c.write.ensures
          c.post_all.ensures.posted (c.as_slice.ensures.value ∙ c.in_ok-reports.ensures.reports) (told_of c.choose.new.self c.post_all.new.agent c.post_all.ensures.state);
      state = overs c.args.agent.now c.choose.new.self c.post_all.new.agent asked c.in_ok-reports.ensures.state c.post_all.ensures.state;
    }
