use Rattle.std.proofs.Common.{◌≡◌, ◌≤◌}
use Rattle.std.specs.Prelude.{All}
use Rattle.session_rounds.specs.Beginnings.{BooksNothing}
use Rattle.session_rounds.proofs.entering.enter_joins.Given as goal

abbrev pub invariant-loop-join : goal.invariant-loop-join
invariant-loop-join g l = record { booked : All BooksNothing l.joins → l.pass.booked ≡ l.fn.pass.booked; seat : l.pass.seat ≡ l.fn.pass.seat; grown : l.fn.pass.calls ≤ l.pass.calls }
