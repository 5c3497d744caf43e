use Rattle.std.proofs.Common.{arith}
use Rattle.served_lists.specs.Served.{slot_let_go}
use Rattle.served_lists.proofs.SlotLemmas.{is_tabulated}
use Rattle.served_lists.proofs.slots.let_go.Goals as goal

pub returns-clause-slots : goal.returns-clause-slots
returns-clause-slots c =
    let seen = c.loop-target.invariant in
    let past = c.loop-target-test.false in
    let len = seen.len in
    is_tabulated (slot_let_go c.args.known.now c.args.slots.now c.args.collector c.args.job) c.loop-target.slots _ len (λ k l. seen.before k (omega (arith, l, past, len)))
