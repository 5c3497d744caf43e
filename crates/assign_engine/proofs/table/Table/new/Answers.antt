use Rattle.std.proofs.Common.{map, ap, ◌∙◌, arith}
use Rattle.assign_engine.specs.Table.{read_as}
use Rattle.assign_engine.proofs.Tables.{filled_anew}
use Rattle.assign_engine.proofs.table.Table.new.Goals as goal

pub returns : goal.returns
returns c = ap (map (read_as 18446744073709551615 0)) (c.in_ok-vec.ensures.items_if_clones_equal (λ y e. e)) ∙ filled_anew 18446744073709551615 18446744073709551615 0 (omega arith) c.args.count
