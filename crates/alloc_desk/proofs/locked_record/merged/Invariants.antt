use Rattle.std.proofs.Common.{◌≡◌, ◌+◌, vec_len}
use Rattle.std.specs.Prelude.{sum_by}
use Rattle.alloc_desk.specs.Counts.{Counts}
use Rattle.alloc_desk.proofs.locked_record.merged.Given as goal

abbrev pub invariant-loop-pass : goal.invariant-loop-pass
invariant-loop-pass g l =
    record {
      call_parts : l.call_share.parts + vec_len l.rest ≡ vec_len l.fn.passes;
      sample_parts : l.sample_share.parts + vec_len l.rest ≡ vec_len l.fn.passes;
      calls : l.call_share.amount + sum_by (λ (p : Counts). p.calls) l.rest.items ≡ sum_by (λ (p : Counts). p.calls) l.fn.passes.items;
      booked : l.sample_share.amount + sum_by (λ (p : Counts). p.booked) l.rest.items ≡ sum_by (λ (p : Counts). p.booked) l.fn.passes.items;
    }

abbrev pub decreases-loop-pass : goal.decreases-loop-pass
decreases-loop-pass g l = vec_len l.rest
