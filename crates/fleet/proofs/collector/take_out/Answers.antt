use Rattle.std.proofs.Common.{rules}
use Rattle.std.specs.Prelude.{◌==◌, not}
use Rattle.std.proofs.lemmas.Fn.{filter_same}
use Rattle.fleet.specs.declared.collector.Collector.{Collector}
use Rattle.fleet.proofs.collector.take_out.Goals as goal

pub returns : goal.returns
returns c = filter_same _ (λ (x : Collector). not (x.id == c.args.id)) _ (λ x b f' called. (search rules, search rules)) _ _ c.retain.ensures.filtered
