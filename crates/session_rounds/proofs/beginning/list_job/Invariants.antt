use Rattle.std.proofs.Common.{◌≡◌, ◌≤◌, ◌+◌, ◌-◌, ℕ, List}
use Rattle.session_rounds.specs.Beginnings.{AskedSources, asked_count}
use Rattle.session_rounds.proofs.beginning.list_job.Given as goal

abbrev pub invariant-loop-index : goal.invariant-loop-index
invariant-loop-index g l =
    record {
      asked : (last : _) (after : List ℕ) → AskedSources g.S.Scrape.may_fetch l.job l.rules (1 + l.index) (asked_count l.job - l.index) l.refresher.scrape last l.text.items after
          → AskedSources g.S.Scrape.may_fetch l.job l.rules 1 (asked_count l.job) l.fn.refresher.scrape last l.fn.text.items after;
      booked : l.refresher.pass.booked ≡ l.fn.refresher.pass.booked;
      seat : l.refresher.pass.seat ≡ l.fn.refresher.pass.seat;
      grown : l.fn.refresher.pass.calls ≤ l.refresher.pass.calls;
    }
