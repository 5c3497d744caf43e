-- How even a plan is to be: its collectors' loads beside those of a witness, which is as even as any assignment that covers and leaves
-- as many. A collector has so many bins in a row, one for each job.
use Rattle.std.specs.Prelude.{◌≡◌, ◌==◌, ◌+◌, ◌*◌, ◌/◌, ◌<◌, ◌≤◌, ℕ, List, slice_index, if◌then◌else◌}
use Rattle.std.specs.Int.{div_ceil}
use Rattle.price_certificate.specs.Problem.{Problem, IsProblem, bins_of}
use Rattle.price_certificate.specs.Assignment.{IsFeasible, covered, left}
use Rattle.price_certificate.specs.Certificate.{sum_below}
use Rattle.spread_certificate.specs.Loads.{group_of, load_of, IsEvenest}

-- the collector of a bin
abbrev pub owner_of : ℕ → ℕ → ℕ
owner_of jobs bin = bin / jobs

-- how many collectors there are
abbrev pub owners_of : Problem → ℕ → ℕ
owners_of p jobs = div_ceil (bins_of p) jobs

-- how many items a collector has in bins that do not drain; the group past the collectors has those in bins that drain
abbrev pub load_in : Problem → ℕ → List (ℕ × ℕ) → ℕ → ℕ
load_in p jobs pairs collector = load_of p (owner_of jobs) (owners_of p jobs) pairs collector

-- the sum of the caps of a group
abbrev pub caps_of : Problem → ℕ → List ℕ → ℕ → ℕ
caps_of p jobs caps group = sum_below (λ bin. if group_of p (owner_of jobs) (owners_of p jobs) bin == group then slice_index caps bin else 0) (bins_of p)

-- so much and so many percent more, rounded up
abbrev pub with_slack : ℕ → ℕ → ℕ
with_slack slack load = div_ceil (load * (100 + slack)) 100

-- The witness covers and leaves as many as the plan, none that does is more even, and each collector has at most as many items in the
-- plan as in the witness, and the slack more.
pub record IsEvenWithin (p : Problem) (jobs slack : ℕ) (witness pairs : List (ℕ × ℕ)) : Type 0 where
  pub covers : covered witness ≡ covered pairs
  pub leaves : left p witness ≡ left p pairs
  pub evenest : IsEvenest p (owner_of jobs) (owners_of p jobs) witness
  pub loads : (collector : ℕ) → collector < owners_of p jobs → load_in p jobs pairs collector ≤ with_slack slack (load_in p jobs witness collector)

-- With no slack the plan itself is as even as any.
abbrev pub NoSlackIsEvenest : Type 0
NoSlackIsEvenest = (p : Problem) (jobs : ℕ) (witness pairs : List (ℕ × ℕ)) → IsProblem p → 0 < jobs → IsFeasible p pairs → IsEvenWithin p jobs 0 witness pairs → IsEvenest p (owner_of jobs) (owners_of p jobs) pairs
