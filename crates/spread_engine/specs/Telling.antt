-- What a spread tells of how even it is.
use Rattle.std.specs.Prelude.{◌≡◌, ℕ, Option}
use Rattle.spread_certificate.specs.declared.even.Even.{Even}
use Rattle.spread_certificate.specs.declared.spread.Spread.{Spread}

-- the spread with this in place of what it tells
abbrev pub telling : Spread → Option Even → Spread
telling spread even = record spread { even = even }

-- what is told is of collectors with so many bins, and of so much slack
pub record IsTold (jobs slack : ℕ) (even : Even) : Type 0 where
  pub for_jobs : even.jobs ≡ jobs
  pub for_slack : even.slack ≡ slack
