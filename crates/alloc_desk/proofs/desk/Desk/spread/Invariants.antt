use Rattle.std.proofs.Common.{◌≡◌, ◌+◌}
use Rattle.alloc_desk.specs.Spreading.{LostSpreadIn}
use Rattle.alloc_desk.proofs.desk.Desk.spread.Given as goal

abbrev pub invariant-loop-turn : goal.invariant-loop-turn
invariant-loop-turn g l =
    record {
      calls : l.pass.calls ≡ l.fn.pass.calls + l._turn;
      booked : l.pass.booked ≡ l.fn.pass.booked;
      seat : l.pass.seat ≡ l.fn.pass.seat;
      lost : LostSpreadIn g.N.DeskName.opening l.pass l.slack l.most_moves l._turn l.lost;
    }
