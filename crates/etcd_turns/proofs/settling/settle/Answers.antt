use Rattle.std.proofs.Common.{inr, suc, refl, ap}
use Rattle.etcd_terms.specs.declared.seat.Seat.{Seat}
use Rattle.etcd_turns.proofs.settling.settle.Goals as goal

pub loop-preserved : goal.loop-preserved
loop-preserved g c = (suc c.loop.invariant.0, (c.loop.etcd, (c.loop.seat, (c.loop.invariant.1, c.in_ok-step.ensures))))

pub returns : goal.returns
returns g c =
    record {
      count = suc c.loop.invariant.0;
      asks = (c.loop.etcd, (c.loop.seat, (c.loop.invariant.1, inr (refl, c.end.ensures))));
      known = ap (λ (s : Seat). s.asked) c.end.ensures;
    }
