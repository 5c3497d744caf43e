use Rattle.std.proofs.Common.{ℕ, List, set, length, get_or, ap, ◌∙◌, arith}
use Rattle.std.proofs.lemmas.List.{length-map}
use Rattle.assign_engine.specs.Table.{read_as}
use Rattle.assign_engine.proofs.Tables.{lowered, read_most}
use Rattle.assign_engine.proofs.table.Table.lower.Goals as goal

pub overflow_add-self-inside : goal.overflow_add-self-inside
overflow_add-self-inside c =
    let old = c.self.inside in
    let count = length-map old.stored.items (read_as old.floor old.filling) in
    let same = ap length c.self.view_is in
    let here = ap (λ (xs : List ℕ). get_or xs c.args.index 0) c.self.view_is in
    omega (arith, c.self.invariant.fits, c.requires.number, count, same, here, read_most old.floor old.filling old.stored.items c.args.index (omega (arith, c.requires.index, count, same)))

pub returns : goal.returns
returns c =
    let old = c.self.inside in
    let count = length-map old.stored.items (read_as old.floor old.filling) in
    let same = ap length c.self.view_is in
    let here = ap (λ (xs : List ℕ). get_or xs c.args.index 0) c.self.view_is in
    lowered old.floor old.filling old.stored.items c.args.index c.args.number
    (omega (arith, c.requires.number, here, read_most old.floor old.filling old.stored.items c.args.index (omega (arith, c.requires.index, count, same))))
    ∙ ap (λ (xs : List ℕ). set xs c.args.index c.args.number) c.self.view_is
