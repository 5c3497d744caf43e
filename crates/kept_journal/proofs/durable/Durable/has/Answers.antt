use Rattle.std.proofs.Common.{◌≤◌, arith, length, take}
use Rattle.std.proofs.lemmas.Bool.Decides.{nat_tests}
use mathlib.Core.List.{IsPrefix}
use Rattle.kept_journal.proofs.Beginnings.{begins_taken, begins_trans, taken_begins, taken_is_longer}
use Rattle.kept_journal.proofs.durable.Durable.has.Goals as goal

pub returns-then-covers-clause-has : goal.returns-then-covers-clause-has
returns-then-covers-clause-has g c =
    let seen = c.self.inside.front in
    let kept = c.self.inside.entries in
    let theirs = c.args.front.now in
    let begins : IsPrefix theirs seen = grind (arith, nat_tests, c.if-covers.ensures, c.if-covers.true) in (
      λ is.
          let short : length theirs ≤ kept = grind (arith, nat_tests, c.len.ensures.len, is) in
          rw (← c.self.view_is) (begins_taken kept theirs seen begins c.self.invariant.0 short),
      λ has.
          let short : length theirs ≤ kept = taken_is_longer kept theirs seen c.self.invariant.0 (rw (c.self.view_is) has) in
          grind (arith, nat_tests, c.len.ensures.len, short),
    )

pub returns-else-covers-clause-has : goal.returns-else-covers-clause-has
returns-else-covers-clause-has g c = (
  λ is. absurd (grind (arith, nat_tests, c.if-covers.false, is)),
  λ has. absurd (grind (arith, nat_tests, c.if-covers.false, c.if-covers.ensures, begins_trans c.args.front.now (take c.self.inside.entries c.self.inside.front) c.self.inside.front (rw (c.self.view_is) has) (taken_begins c.self.inside.entries c.self.inside.front))),
)
