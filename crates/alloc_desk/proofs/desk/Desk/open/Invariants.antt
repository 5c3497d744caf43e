use Rattle.std.proofs.Common.{◌≡◌, ◌+◌, vec_len}
use Rattle.std.specs.Prelude.{vec_capacity}
use Rattle.alloc_desk.specs.Counts.{first_counts}
use Rattle.alloc_desk.proofs.desk.Desk.open.Given as goal

abbrev pub invariant-loop-seat : goal.invariant-loop-seat
invariant-loop-seat g l =
    record {
      call_parts : l.call_share.parts + l.seat ≡ l.passes;
      call_amount : l.call_share.amount ≡ 0;
      sample_parts : l.sample_share.parts + l.seat ≡ l.passes;
      sample_amount : l.sample_share.amount ≡ 0;
      count : vec_len l.all ≡ l.seat;
      room : vec_capacity l.all ≡ l.passes;
      fresh : l.all.items ≡ first_counts l.seat;
    }
