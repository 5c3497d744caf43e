use Rattle.std.proofs.Common.{ℕ, List, length, ap, sym, ◌∙◌, arith}
use Rattle.price_certificate.proofs.Optimal.{covered-most}
use Rattle.spread_certificate.specs.EvenFaults.{witness_of}
use Rattle.spread_certificate.proofs.EvenLemmas.{jobs_fine, lengths_fine, witness_fine}
use Rattle.spread_certificate.proofs.judge.find_uneven.Goals as goal

pub find_bad_levels-requires-clause-jobs : goal.find_bad_levels-requires-clause-jobs
find_bad_levels-requires-clause-jobs c = jobs_fine c.args.instance.now c.args.even.now (sym c.in_default.ensures)

pub find_bad_levels-requires-clause-items : goal.find_bad_levels-requires-clause-items
find_bad_levels-requires-clause-items c = (lengths_fine c.args.instance.now c.args.even.now (sym c.in_default.ensures)).1

pub find_bad_levels-requires-clause-bins : goal.find_bad_levels-requires-clause-bins
find_bad_levels-requires-clause-bins c = (lengths_fine c.args.instance.now c.args.even.now (sym c.in_default.ensures)).2

pub find_bad_levels-requires-clause-pairs : goal.find_bad_levels-requires-clause-pairs
find_bad_levels-requires-clause-pairs c =
    let p = c.args.instance.now in
    let pairs = witness_of c.args.spread.now c.args.even.now in
    let witness = witness_fine p c.args.spread.now c.args.even.now c.is_problem.ensures c.requires (sym c.in_ok-fault.ensures ∙ c.in_default-2.is) in
    omega (arith, covered-most p pairs witness.feasible, ap (λ (qs : List (ℕ × ℕ)). length qs) (c.as_slice.ensures ∙ c.witness_of-pairs.ensures))
