use Rattle.std.proofs.Common.{◌∙◌}
use Rattle.relabel.proofs.Expansions.{is_expansion}
use Rattle.relabel.proofs.expanding.expansions.Goals as goal

pub returns-clause-value : goal.returns-clause-value
returns-clause-value c =
    let found = c.in-Some.ensures.found in
    let groups = c.in-Some.groups in (
      found.0,
      found.1,
      λ names written read. c.in_ok-first.ensures ∙ is_expansion groups found.0 c.args.text.now c.args.templates.0.now found.2 names written read,
      λ names written read. c.in_ok-second.ensures ∙ is_expansion groups found.0 c.args.text.now c.args.templates.1.now found.2 names written read,
    )
