-- A spread with what tells how even it is.
use Rattle.std.proofs.Common.{◌≡◌, Option, None}
use Rattle.price_certificate.specs.Problem.{Problem}
use Rattle.price_certificate.proofs.First.{both_none}
use Rattle.spread_certificate.specs.Judged.{best_fault, told_fault, spread_fault}
use Rattle.spread_certificate.specs.declared.even.Even.{Even}
use Rattle.spread_certificate.specs.declared.spread.Spread.{Spread}
use Rattle.spread_engine.specs.Telling.{telling}

-- What it tells changes nothing of its caps and its plan.
pub same_best : (p : Problem) (spread : Spread) (even : Option Even) → best_fault p spread ≡ None → best_fault p (telling spread even) ≡ None
unfolding best_fault
same_best p spread even e = e

pub best_and_told : (p : Problem) (spread : Spread) → best_fault p spread ≡ None → told_fault p spread spread.even ≡ None → spread_fault p spread ≡ None
unfolding spread_fault
best_and_told p spread best told = both_none _ _ best told
