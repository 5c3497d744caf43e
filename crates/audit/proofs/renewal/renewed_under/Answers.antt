use Rattle.std.proofs.Common.{◌<◌, ℕ, AllPairs, List, subst}
use Rattle.audit.proofs.renewal.renewed_under.Goals as goal

pub returns-in-Ok-clause-ascending : goal.returns-in-Ok-clause-ascending
returns-in-Ok-clause-ascending c = subst (λ (ps : List (ℕ × ℕ)). AllPairs (λ (a b : ℕ × ℕ). a.0 < b.0) ps) c.allocation-pairs.ensures.pairs c.allocation-pairs.ensures.ascending
