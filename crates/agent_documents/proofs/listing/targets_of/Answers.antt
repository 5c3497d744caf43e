use Rattle.std.proofs.Common.{◌+◌, List, ap, drop, ◌∙◌}
use Rattle.agent_core.specs.declared.target.Listed.{Listed}
use Rattle.agent_documents.specs.Lists.{targets_said}
use Rattle.agent_documents.specs.Reading.{with_front}
use Rattle.agent_documents.proofs.ListLemmas.{group_more}
use Rattle.agent_documents.proofs.listing.targets_of.Goals as goal

pub loop-group-preserved : goal.loop-group-preserved
loop-group-preserved c =
    let job = c.args.job in
    let groups = c.args.groups.now in
    let i = c.loop-group.group-index in
    ap (λ (ts : List Listed). with_front ts (targets_said job (drop (i + 1) groups))) c.in_ok-push.ensures.items
    ∙ group_more job groups i c.group-item.result c.in_ok-listed.listed c.loop-group.targets.items c.loop-group-test.true c.group-item.is c.in_ok-listed.ensures
    ∙ c.loop-group.invariant
