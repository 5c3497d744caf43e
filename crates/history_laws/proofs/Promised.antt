-- What is promised holds of events from each state that starts a stretch, and so from what a first line opens.
use Rattle.std.proofs.Common.{◌≡◌, ℕ, List, [], sym, subst, arith}
use Rattle.scrape_books.specs.Kept.{BookedOnce}
use Rattle.scrape_books.specs.declared.report.Entry.{Entry}
use Rattle.fleet_events.specs.declared.event.Event.{Event}
use Rattle.fleet_assignment.specs.Laws.{PlanLaws}
use Rattle.allocation_core.specs.Best.{PublishedCoverMost}
use Rattle.allocation_core.specs.Runs.{state_of}
use Rattle.allocation_core.specs.State.{State}
use Rattle.allocation_core.proofs.BookedLemmas.{run_once}
use Rattle.renewal.proofs.HistoryLemmas.{Starts, good}
use Rattle.history_laws.specs.Promises.{IsPromised, OpenedAreGood, lists_after, lists_told}
use Rattle.history_laws.proofs.Lists.{disjoint, run_tells, serves_whole, told_of}
use Rattle.history_laws.proofs.Opening.{opened_starts}

nothing_twice : (booked : List (ℕ × Entry)) → booked ≡ [] → BookedOnce booked
nothing_twice booked none = subst BookedOnce (sym none) (λ i j d less within. absurd (omega arith))

promised : PlanLaws → PublishedCoverMost → (start : State) (events : List Event) → Starts start → IsPromised start events
promised laws most start events starts =
    let fine = good laws start events starts in
    let tells = run_tells start (lists_told start) events starts.kept (told_of start) in
    record {
      good = fine;
      most = λ place low high. most start events place _ (fine.best place low high);
      rounds = run_once start events (nothing_twice start.booked starts.unbooked);
      disjoint = disjoint (state_of start events) (lists_after start events) tells;
      whole = serves_whole (state_of start events) (lists_after start events) tells;
    }

pub opened_are_good : PlanLaws → PublishedCoverMost → OpenedAreGood
opened_are_good laws most line start events opens = promised laws most start events (opened_starts line start opens)
