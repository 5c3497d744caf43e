use Rattle.std.specs.Prelude.{option_and_then}
use Rattle.std.proofs.Common.{◌≡◌, ◌∙◌, true, List, ap, subst, sym}
use Rattle.json_values.specs.Texts.{json_of}
use Rattle.fleet.specs.Fleet.{FleetState}
use Rattle.fleet.specs.declared.job.JobSpec.{JobSpec}
use Rattle.allocation_core.specs.State.{IsCount}
use Rattle.durable_journal.specs.Configured.{has_jobs, with_history}
use Rattle.durable_journal.proofs.FirstLines.{first_begins, renewed_first_again, renewed_first_opens, renewed_first_whole}
use Rattle.durable_journal.proofs.beginning.FirstLine.renewed.Goals as goal

pub returns-clause-opens : goal.returns-clause-opens
returns-clause-opens c = renewed_first_opens c.args.document.now c.args.core.now c.renewed_line.result (subst IsCount c.report_rounds.ensures c.count-count.ensures.is) c.renewed_line.ensures.given

pub returns-clause-again : goal.returns-clause-again
returns-clause-again c = renewed_first_again c.args.document.now c.args.core.now c.renewed_line.result (subst IsCount c.report_rounds.ensures c.count-count.ensures.is) c.renewed_line.ensures.given c.renewed_line.ensures.reads_back

pub returns-clause-whole : goal.returns-clause-whole
returns-clause-whole c =
    let own : c.args.core.now.fleet.jobs ≡ c.jobs.result.now = sym (c.jobs.ensures.jobs ∙ ap (λ (f : FleetState). f.jobs) c.fleet.ensures) in
    let has : has_jobs c.args.core.now.fleet.jobs c.args.document.now ≡ true = ap (λ (jobs : List JobSpec). has_jobs jobs c.args.document.now) own ∙ sym c.in_ok-has_jobs.ensures ∙ c.if-not-branch.false in
    renewed_first_whole c.args.document.now c.args.core.now c.renewed_line.result c.renewed_read_back.ensures has (subst IsCount c.report_rounds.ensures c.count-count.ensures.is) c.renewed_line.ensures.given c.renewed_line.ensures.reads_back

pub returns-clause-begins : goal.returns-clause-begins
returns-clause-begins c = first_begins c.renewed_line.result (option_and_then (with_history c.args.core.now) (json_of c.args.document.now)) c.renewed_line.ensures.given
