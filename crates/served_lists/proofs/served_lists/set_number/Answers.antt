use Rattle.std.proofs.Common.{arith}
use Rattle.served_lists.proofs.NumberLemmas.{insert_entry-with_number}
use Rattle.served_lists.proofs.served_lists.set_number.Goals as goal

pub returns-clause-ok : goal.returns-clause-ok
returns-clause-ok c = grind (arith, insert_entry-with_number c.args.numbers.now.entries c.args.collector c.args.job c.args.number, c.in_ok-map_err.ensures, c.insert.ensures.entries)
