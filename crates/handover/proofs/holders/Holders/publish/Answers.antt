use Rattle.std.proofs.Common.{arith}
use Rattle.std.proofs.lemmas.Grind.{common_steps}
use Rattle.handover.proofs.KeptLemmas.{current_is}
use Rattle.handover.proofs.holders.Holders.publish.Goals as goal

pub returns-then-self-ge-LAST_NUMBER-clause-spent : goal.returns-then-self-ge-LAST_NUMBER-clause-spent
returns-then-self-ge-LAST_NUMBER-clause-spent c =
    let count = current_is c.args.self.now c.self.inside.current c.self.inside.rows.items c.self.inside.taken.entries c.self.view_is in
    grind (arith, common_steps, count, c.self.ranges)

pub returns-in_err-follow-clause-spent : goal.returns-in_err-follow-clause-spent
returns-in_err-follow-clause-spent c =
    let count = current_is c.args.self.now c.self.inside.current c.self.inside.rows.items c.self.inside.taken.entries c.self.view_is in
    grind (arith, common_steps, count, c.from_residual.ensures)

pub returns-clause-number : goal.returns-clause-number
returns-clause-number c =
    let count = current_is c.args.self.now c.self.inside.current c.self.inside.rows.items c.self.inside.taken.entries c.self.view_is in
    omega (arith, count)

pub returns-clause-spent : goal.returns-clause-spent
returns-clause-spent c =
    let count = current_is c.args.self.now c.self.inside.current c.self.inside.rows.items c.self.inside.taken.entries c.self.view_is in
    grind (arith, common_steps, count)
