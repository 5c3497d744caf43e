use Rattle.std.proofs.Common.{◌≡◌, ◌-◌, ℕ, map, length, replicate, sym, ap, ◌∙◌, subst, arith}
use Rattle.std.specs.Vec.{vec_len}
use Rattle.std.proofs.lemmas.List.{length-map}
use Rattle.assign_engine.specs.Table.{read_as}
use Rattle.assign_engine.specs.declared.table.Table.TheInside.{Inside}
use Rattle.assign_engine.proofs.Tables.{filled, filled_anew}
use Rattle.assign_engine.proofs.table.Table.fill.Goals as goal
use Rattle.assign_engine.proofs.table.Table.fill.Goals.{then-number-self, else-number-self}

pub returns : goal.returns
returns c =
    let n = c.args.number in
    let old = c.self.inside in
    let now = c.args.self.now in
    let F = λ (x : Inside). map (read_as x.floor n) x.stored.items ≡ replicate (length now) n in
    let count : length old.stored.items ≡ length now = sym (length-map old.stored.items (read_as old.floor old.filling)) ∙ ap length c.self.view_is in
    elim c.if-number-self.branch [
      | then-number-self w ↦ subst F (sym w.self-inside-is) (filled old.floor (old.floor - n) n (omega (arith, w.if-number-self.true)) old.stored.items now c.self.invariant.above count)
      | else-number-self w ↦ subst F (sym w.self-inside-is)
          (ap (map (read_as (18446744073709551615 - n) n)) (w.fill.ensures.items (λ y e. e))
          ∙ filled_anew 18446744073709551615 (18446744073709551615 - n) n (omega (arith, c.ranges.number)) (vec_len old.stored)
          ∙ ap (λ (m : ℕ). replicate m n) (omega (arith, old.stored.ok.0, count)))
    ]
