-- Instances that are made of another: one with nothing before, and one with caps.
use Rattle.std.specs.Prelude.{ℕ, List, None, filter, map, replicate, nat_lt, slice_index}
use Rattle.price_certificate.specs.Problem.{Problem, items_of}

-- nothing was anywhere before, so that only what is covered and what is left counts
abbrev pub bare : Problem → Problem
bare p = record p { before = replicate (items_of p) None }

-- the bins of a row that have a cap above 0
abbrev pub open_bins : List ℕ → List ℕ → List ℕ
open_bins caps row = filter (λ bin. nat_lt 0 (slice_index caps bin)) row

-- No bin may have more items than its cap. A bin whose cap is 0 stands in no row, since a limit of 0 is no limit.
abbrev pub capped : List ℕ → Problem → Problem
capped caps p = record p { limits = caps; rows = map (open_bins caps) p.rows }
