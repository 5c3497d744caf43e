use Rattle.std.proofs.Common.{◌≡◌, ◌++◌, List, ap, sym, ◌∙◌, subst}
use Rattle.fleet.specs.declared.job.JobSpec.{JobSpec}
use Rattle.fleet_events.specs.declared.event.Event.{Event}
use Rattle.allocation_core.specs.State.{State, first_state}
use Rattle.allocation_core.specs.Runs.{state_of}
use Rattle.allocation_core.specs.Best.{AllBest}
use Rattle.allocation_core.specs.Booked.{AllBooked}
use Rattle.journal_entries.specs.Legal.{events_in}
use Rattle.alloc_desk.proofs.JournalLemmas.{ends_at}
use Rattle.alloc_desk.proofs.laws.closed_desks_are_best_and_booked.Goals as goal

pub returns-clause-best : goal.returns-clause-best
returns-clause-best g c = λ jobs report_rounds earlier opened.
    let events = earlier ++ events_in c.args.closed.now.journal in
    let P : State → Type 0 = AllBest (first_state jobs report_rounds) events in
    subst P (sym (ends_at jobs report_rounds earlier c.journal.ensures.legal opened)) (c.published_are_best.ensures jobs report_rounds events)

pub returns-clause-booked : goal.returns-clause-booked
returns-clause-booked g c = λ jobs report_rounds earlier opened.
    let events = earlier ++ events_in c.args.closed.now.journal in
    let P : State → Type 0 = AllBooked (first_state jobs report_rounds) events in
    subst P (sym (ends_at jobs report_rounds earlier c.journal.ensures.legal opened)) (c.booked_by_holders.ensures jobs report_rounds events)
