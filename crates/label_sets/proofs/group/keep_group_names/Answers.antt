use Rattle.std.proofs.Common.{rules}
use Rattle.std.proofs.lemmas.List.Elements.{filter_from_retain}
use Rattle.label_sets.specs.Target.{is_group_name}
use Rattle.label_sets.proofs.group.keep_group_names.Goals as goal

-- the closure tests an entry's name
pub returns : goal.returns
returns c = filter_from_retain _ (λ l. is_group_name l.0) (λ f l b g called. search rules) _ _ _ c.retain.ensures.filtered
