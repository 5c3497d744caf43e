use Rattle.std.proofs.Common.{rules}
use Rattle.std.proofs.lemmas.Fn.{filter_same}
use Rattle.agent_core.specs.Agents.{is_listed}
use Rattle.agent_core.proofs.serving.keep_listed.Goals as goal

pub returns : goal.returns
returns c = filter_same _ (is_listed c.args.targets.now c.args.lists.now.keys) _ (λ x b f' called. (search rules, search rules)) _ _ c.retain.ensures.filtered
