use Rattle.std.proofs.Common.{◌≡◌, ◌≤◌}
use Rattle.session_rounds.specs.Rounds.{RanRounds}
use Rattle.session_rounds.proofs.rounds.run_rounds.Given as goal

abbrev pub invariant-loop-round : goal.invariant-loop-round
invariant-loop-round g l =
    record {
      ran : RanRounds g.S.Scrape.may_fetch g.N.DeskName.opening l.jobs l.round l.fn.workers l.workers l.fn.text.items l.text.items;
      booked : l.refresher.pass.booked ≡ l.fn.refresher.pass.booked;
      seat : l.refresher.pass.seat ≡ l.fn.refresher.pass.seat;
      grown : l.fn.refresher.pass.calls ≤ l.refresher.pass.calls;
    }
