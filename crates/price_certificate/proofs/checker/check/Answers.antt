use Rattle.std.proofs.Common.{◌≡◌, Some, None, refl}
use Rattle.price_certificate.specs.Faults.{fault_of}
use Rattle.price_certificate.proofs.Optimal.{optimal}
use Rattle.price_certificate.proofs.Verdicts.{fault_none, certified_none}
use Rattle.price_certificate.proofs.checker.check.Goals as goal

pub returns-in-Some-clause-certified : goal.returns-in-Some-clause-certified
returns-in-Some-clause-certified c =
    let found : fault_of c.args.instance.now c.args.plan.now.pairs c.args.plan.now.item_prices c.args.plan.now.bin_prices ≡ Some c.in-Some.fault = cc (c.in_ok-fault.ensures, c.in-Some.is, c.as_slice-pairs.ensures, c.as_slice.ensures, c.as_slice-2.ensures) in
    (λ e. cc, λ h. let none = certified_none c.args.instance.now c.args.plan.now.pairs c.args.plan.now.item_prices c.args.plan.now.bin_prices c.is_problem.ensures h in cc)

pub returns-in-None-clause-certified : goal.returns-in-None-clause-certified
returns-in-None-clause-certified c =
    let none : fault_of c.args.instance.now c.args.plan.now.pairs c.args.plan.now.item_prices c.args.plan.now.bin_prices ≡ None = cc (c.in_ok-fault.ensures, c.in-None.is, c.as_slice-pairs.ensures, c.as_slice.ensures, c.as_slice-2.ensures) in
    (λ e. fault_none c.args.instance.now c.args.plan.now.pairs c.args.plan.now.item_prices c.args.plan.now.bin_prices c.is_problem.ensures none, λ h. refl)

pub returns-in-None-clause-optimal : goal.returns-in-None-clause-optimal
returns-in-None-clause-optimal c e =
    let none : fault_of c.args.instance.now c.args.plan.now.pairs c.args.plan.now.item_prices c.args.plan.now.bin_prices ≡ None = cc (c.in_ok-fault.ensures, c.in-None.is, c.as_slice-pairs.ensures, c.as_slice.ensures, c.as_slice-2.ensures) in
    optimal c.args.instance.now c.args.plan.now.pairs c.args.plan.now.item_prices c.args.plan.now.bin_prices c.is_problem.ensures (fault_none c.args.instance.now c.args.plan.now.pairs c.args.plan.now.item_prices c.args.plan.now.bin_prices c.is_problem.ensures none)
