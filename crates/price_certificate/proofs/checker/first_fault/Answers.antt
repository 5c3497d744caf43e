use Rattle.std.proofs.Common.{sym, ◌∙◌, arith}
use Rattle.price_certificate.specs.Faults.{fault_of}
use Rattle.price_certificate.proofs.First.{found_here, not_here}
use Rattle.price_certificate.proofs.Optimal.{covered-most}
use Rattle.price_certificate.proofs.Verdicts.{numbers_fine, feasible_fine}
use Rattle.price_certificate.proofs.checker.first_fault.Goals as goal

pub returns-in-Some : goal.returns-in-Some
unfolding fault_of
returns-in-Some c = sym (found_here _ _ _ (sym c.in-Some.ensures))

pub returns-in-Some-find_bad_number : goal.returns-in-Some-find_bad_number
unfolding fault_of
returns-in-Some-find_bad_number c = sym (not_here _ _ (sym c.in_default.ensures) ∙ found_here _ _ _ (sym c.in-Some-find_bad_number.ensures))

pub find_item_twice-requires : goal.find_item_twice-requires
find_item_twice-requires c place l = omega (arith, (numbers_fine c.args.instance.now c.args.pairs.now (sym c.in_default-find_bad_number.ensures) place l).0)

pub returns-in-Some-2 : goal.returns-in-Some-2
unfolding fault_of
returns-in-Some-2 c = sym (not_here _ _ (sym c.in_default.ensures) ∙ not_here _ _ (sym c.in_default-find_bad_number.ensures) ∙ found_here _ _ _ (sym c.in_ok-fault.ensures ∙ c.in-Some-2.is))

pub returns-in-Some-find_out_of_reach : goal.returns-in-Some-find_out_of_reach
unfolding fault_of
returns-in-Some-find_out_of_reach c = sym (not_here _ _ (sym c.in_default.ensures) ∙ not_here _ _ (sym c.in_default-find_bad_number.ensures) ∙ not_here _ _ (sym c.in_ok-fault.ensures ∙ c.in_default-2.is) ∙ found_here _ _ _ (sym c.in-Some-find_out_of_reach.ensures))

pub returns-in-Some-3 : goal.returns-in-Some-3
unfolding fault_of
returns-in-Some-3 c = sym (not_here _ _ (sym c.in_default.ensures) ∙ not_here _ _ (sym c.in_default-find_bad_number.ensures) ∙ not_here _ _ (sym c.in_ok-fault.ensures ∙ c.in_default-2.is) ∙ not_here _ _ (sym c.in_default-find_out_of_reach.ensures) ∙ found_here _ _ _ (sym c.in_ok-fault-2.ensures ∙ c.in-Some-3.is))

pub returns-in-Some-4 : goal.returns-in-Some-4
unfolding fault_of
returns-in-Some-4 c = sym (not_here _ _ (sym c.in_default.ensures) ∙ not_here _ _ (sym c.in_default-find_bad_number.ensures) ∙ not_here _ _ (sym c.in_ok-fault.ensures ∙ c.in_default-2.is) ∙ not_here _ _ (sym c.in_default-find_out_of_reach.ensures) ∙ not_here _ _ (sym c.in_ok-fault-2.ensures ∙ c.in_default-3.is) ∙ found_here _ _ _ (sym c.in_ok-fault-3.ensures ∙ c.in-Some-4.is))

pub find_different_sums-requires-clause-pairs : goal.find_different_sums-requires-clause-pairs
find_different_sums-requires-clause-pairs c = covered-most c.args.instance.now c.args.pairs.now (feasible_fine c.args.instance.now c.args.pairs.now c.is_problem.ensures (sym c.in_ok-fault.ensures ∙ c.in_default-2.is) (sym c.in_default-find_out_of_reach.ensures) (sym c.in_ok-fault-2.ensures ∙ c.in_default-3.is))

pub returns : goal.returns
unfolding fault_of
returns c = c.find_different_sums.ensures ∙ sym (not_here _ _ (sym c.in_default.ensures) ∙ not_here _ _ (sym c.in_default-find_bad_number.ensures) ∙ not_here _ _ (sym c.in_ok-fault.ensures ∙ c.in_default-2.is) ∙ not_here _ _ (sym c.in_default-find_out_of_reach.ensures) ∙ not_here _ _ (sym c.in_ok-fault-2.ensures ∙ c.in_default-3.is) ∙ not_here _ _ (sym c.in_ok-fault-3.ensures ∙ c.in_default-4.is))
