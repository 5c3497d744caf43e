use Rattle.std.proofs.Common.{◌≡◌, ◌≤◌}
use Rattle.session_rounds.proofs.refreshing.renew_job.Given as goal

abbrev pub invariant-loop-index : goal.invariant-loop-index
invariant-loop-index g l = record { booked : l.refresher.pass.booked ≡ l.fn.refresher.pass.booked; seat : l.refresher.pass.seat ≡ l.fn.refresher.pass.seat; grown : l.fn.refresher.pass.calls ≤ l.refresher.pass.calls }
