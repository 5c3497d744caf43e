use Rattle.std.proofs.Common.{rules}
use Rattle.std.specs.Prelude.{◌==◌, not}
use Rattle.std.proofs.lemmas.Fn.{filter_same}
use Rattle.reach_rules.specs.declared.row.Row.{Row}
use Rattle.reach_rules.proofs.table.take_out.Goals as goal

pub returns : goal.returns
returns c = filter_same _ (λ (row : Row). not (row.id == c.args.id)) _ (λ row b f' called. (search rules, search rules)) _ _ c.retain.ensures.filtered
