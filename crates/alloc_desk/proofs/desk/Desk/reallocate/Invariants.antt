use Rattle.std.proofs.Common.{◌≡◌, ◌+◌}
use Rattle.alloc_desk.specs.Reallocating.{LostIn}
use Rattle.alloc_desk.proofs.desk.Desk.reallocate.Given as goal

abbrev pub invariant-loop-turn : goal.invariant-loop-turn
invariant-loop-turn g l =
    record {
      calls : l.pass.calls ≡ l.fn.pass.calls + l._turn;
      booked : l.pass.booked ≡ l.fn.pass.booked;
      seat : l.pass.seat ≡ l.fn.pass.seat;
      lost : LostIn g.N.DeskName.opening l.pass l._turn l.lost;
    }
