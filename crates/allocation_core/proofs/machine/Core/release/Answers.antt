use Rattle.std.proofs.Common.{◌≡◌, List, ap, subst, sym, ◌∙◌}
use Rattle.fleet.specs.declared.known_target.KnownTarget.{KnownTarget}
use Rattle.served_lists.specs.Served.{Served, without_list}
use Rattle.allocation_core.specs.State.{State}
use Rattle.allocation_core.specs.Kept.{IsKept}
use Rattle.allocation_core.proofs.StepLemmas.{release_kept}
use Rattle.allocation_core.proofs.machine.Core.release.Goals as goal

pub invariant_of-self : goal.invariant_of-self
invariant_of-self c =
    let s : State =
    record {
      fleet = c.self.inside.fleet;
      published = c.self.inside.holders.published;
      problem = c.self.inside.instance;
      plan = c.self.inside.plan;
      taken = c.self.inside.holders.taken;
      served = c.self.inside.served;
      round = c.self.inside.round;
      booked = c.self.inside.books;
      begun = c.self.inside.begun;
      report_rounds = c.self.inside.report_rounds;
    } in
    let is : c.release.new.self ≡ without_list s.fleet.known s.served c.args.id c.in-Ok.job =
    c.release.ensures.state ∙ ap (λ (known : List KnownTarget). without_list known s.served c.args.id c.in-Ok.job) c.known.ensures in
    subst (λ (served : Served). IsKept (record s { served = served })) (sym is) (release_kept s c.args.id c.in-Ok.job c.self.invariant)
