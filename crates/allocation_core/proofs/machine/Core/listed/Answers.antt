use Rattle.std.proofs.Common.{◌≡◌, ◌⊎◌, List, Result, Ok, Err, OnErr, OnOk, ap, inl, inr, subst, sym, ◌∙◌}
use Rattle.fleet.specs.declared.known_target.KnownTarget.{KnownTarget}
use Rattle.served_lists.specs.Served.{Served, with_list}
use Rattle.allocation_core.specs.State.{State, was_given}
use Rattle.allocation_core.specs.Kept.{IsKept}
use Rattle.allocation_core.proofs.StepLemmas.{with_list_kept}
use Rattle.allocation_core.proofs.machine.Core.listed.Goals as goal

-- the lists are the new ones or the old ones
one_of : {A B : Type 0} (r : Result A B) (new next old : Served) → OnOk r (new ≡ next) → OnErr r (new ≡ old) → (new ≡ next) ⊎ (new ≡ old)
one_of (Ok list) new next old ok err = inl ok
one_of (Err error) new next old ok err = inr err

pub invariant_of-self : goal.invariant_of-self
invariant_of-self c =
    let s : State =
    record {
      fleet = c.self.inside.fleet;
      published = c.self.inside.holders.published;
      problem = c.self.inside.instance;
      plan = c.self.inside.plan;
      taken = c.self.inside.holders.taken;
      served = c.self.inside.served;
      round = c.self.inside.round;
      booked = c.self.inside.books;
      begun = c.self.inside.begun;
      report_rounds = c.self.inside.report_rounds;
    } in
    let given = ap (λ (m : State). was_given m c.args.id) c.self.view_is ∙ c.requires in
    let next : Served = with_list s.fleet.known s.served c.args.id c.args.job c.current-number.result c.as_slice.result.now in
    let seen = ap (λ (known : List KnownTarget). with_list known s.served c.args.id c.args.job c.current-number.result c.as_slice.result.now) c.known.ensures in
    elim (one_of c.serve.result c.serve.new.self _ c.self.inside.served c.serve.ensures.state c.serve.ensures.err) [
      | inl is ↦ subst (λ (served : Served). IsKept (record s { served = served })) (sym (is ∙ seen)) (with_list_kept s c.args.id c.args.job c.current-number.result c.as_slice.result.now c.self.invariant given)
      | inr same ↦ subst (λ (served : Served). IsKept (record s { served = served })) (sym same) c.self.invariant
    ]
