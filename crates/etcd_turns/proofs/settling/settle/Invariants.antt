use Rattle.std.proofs.Common.{ℕ}
use Rattle.etcd_turns.specs.Posts.{Asks}
use Rattle.etcd_turns.proofs.settling.settle.Given as goal

abbrev pub invariant-loop : goal.invariant-loop
invariant-loop g l = (count : ℕ) × Asks g.E.Etcd.may_post l.prefix l.term count l.fn.etcd l.fn.seat l.etcd l.seat
