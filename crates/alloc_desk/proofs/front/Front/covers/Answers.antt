use Rattle.std.proofs.Common.{◌≡◌, ◌≤◌, ap, arith, length, List, sym, subst}
use Rattle.std.proofs.lemmas.Bool.Decides.{nat_tests}
use mathlib.Core.List.{IsPrefix}
use Rattle.alloc_desk.proofs.Prefixes.{prefix_shorter, prefix_length}
use Rattle.alloc_desk.proofs.front.Front.covers.Goals as goal

pub returns : goal.returns
returns g c =
    let mine = c.self.inside.seen.log in
    let theirs = c.other.inside.seen.log in
    let both = c.learn.new.self.log in
    let this : IsPrefix mine both = rw (← ap (λ s. s.log) c.again-both.ensures) c.learn.ensures.2 in (
      λ is.
          let less : length theirs ≤ length mine = grind (arith, nat_tests, c.self.invariant.0, c.other.invariant.0, is) in
          rw (← c.self.view_is, ← c.other.view_is) (prefix_shorter theirs mine both c.learn.ensures.3 this less),
      λ begins.
          let less : length theirs ≤ length mine = prefix_length theirs mine (rw (c.self.view_is, c.other.view_is) begins) in
          grind (arith, nat_tests, c.self.invariant.0, c.other.invariant.0, less),
    )
