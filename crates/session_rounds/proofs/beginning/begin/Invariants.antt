use Rattle.std.proofs.Common.{◌≡◌, ◌≤◌, ℕ, List, drop}
use Rattle.std.specs.Prelude.{All}
use Rattle.session_rounds.specs.Beginnings.{AskedJobs, BooksNothing}
use Rattle.session_rounds.proofs.beginning.begin.Given as goal

abbrev pub invariant-loop-job : goal.invariant-loop-job
invariant-loop-job g l =
    record {
      asked : (last : _) (after : List ℕ) → AskedJobs g.S.Scrape.may_fetch (drop l.job-index l.session.config.jobs) l.refresher.scrape last l.text.items after
          → AskedJobs g.S.Scrape.may_fetch l.session.config.jobs l.fn.refresher.scrape last l.fn.text.items after;
      booked : All BooksNothing l.session.joins → l.refresher.pass.booked ≡ l.fn.refresher.pass.booked;
      seat : l.refresher.pass.seat ≡ l.fn.refresher.pass.seat;
      grown : l.fn.refresher.pass.calls ≤ l.refresher.pass.calls;
    }
