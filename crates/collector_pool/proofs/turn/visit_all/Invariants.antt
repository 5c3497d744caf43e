use Rattle.std.proofs.Common.{◌≡◌, ◌+◌}
use Rattle.collector_pool.proofs.WorkLemmas.{Progress}
use Rattle.collector_pool.proofs.turn.visit_all.Given as goal

abbrev pub invariant-loop-target : goal.invariant-loop-target
invariant-loop-target g l =
    record {
      calls : l.pass.calls ≡ l.fn.pass.calls + (l.booked + l.refused);
      seat : l.pass.seat ≡ l.fn.pass.seat;
      count : l.booked + l.refused ≡ l.target-index;
      progress : Progress g.S.Scrape.may_fetch g.N.DeskName.opening l.fn.pass l.pass l.jobs l.taken.collector l.taken.allocation l.taken.round l.held l.fn.scrape l.scrape l.target-index l.booked;
    }
