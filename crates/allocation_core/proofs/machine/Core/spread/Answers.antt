use Rattle.std.proofs.Common.{◌≡◌, None, ap, subst, ◌∙◌}
use Rattle.spread_certificate.specs.Judged.{spread_fault}
use Rattle.fleet_assignment.specs.Instance.{instance_of}
use Rattle.allocation_core.specs.State.{current_pairs, instance_at}
use Rattle.allocation_core.specs.Kept.{IsKept}
use Rattle.allocation_core.proofs.InstalledLemmas.{no_fault_within}
use Rattle.allocation_core.proofs.machine.Core.spread.Goals as goal

pub returns-in-Ok-Some-clause-certified : goal.returns-in-Ok-Some-clause-certified
returns-in-Ok-Some-clause-certified c = λ h.
    let kept : IsKept c.args.self.now = subst IsKept c.self.view_is c.self.invariant in
    let none : spread_fault (instance_at c.args.self.now) c.args.spread ≡ None = no_fault_within c.no_best_fault_is_certified.ensures c.args.self.now c.args.spread (c.instances_are_problems.ensures c.args.self.now.fleet (current_pairs c.args.self.now) kept.fleet) h in
    let is : c.in-Ok-build_instance.instance ≡ instance_at c.args.self.now =
    c.in-Ok-build_instance.ensures ∙ (λ i. instance_of c.self.inside.fleet (c.current_pairs-before.ensures.pairs i)) ∙ ap instance_at c.self.view_is in
    cc (none, is, c.in-Ok-Some.ensures.fault)
