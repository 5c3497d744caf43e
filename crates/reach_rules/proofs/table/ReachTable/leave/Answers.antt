use Rattle.std.proofs.Common.{List, ap, ◌∙◌}
use Rattle.std.specs.Prelude.{map}
use Rattle.reach_rules.specs.declared.row.Row.{Row}
use Rattle.reach_rules.specs.Table.{TableState, rows_without, shown}
use Rattle.reach_rules.proofs.TableLemmas.{shown_without}
use Rattle.reach_rules.proofs.table.ReachTable.leave.Goals as goal

pub returns : goal.returns
returns c =
    ap (λ (rows : List Row). map shown rows) c.take_out.ensures ∙ shown_without c.self.inside.rows.items c.args.id ∙ ap (λ (table : TableState). rows_without table.rows c.args.id) c.self.view_is
