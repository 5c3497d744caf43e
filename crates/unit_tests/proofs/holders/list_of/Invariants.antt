use Rattle.std.proofs.Common.{ℕ, ◌<◌, All, AllPairs}
use Rattle.unit_tests.proofs.holders.list_of.Given as goal

abbrev pub invariant-loop-target : goal.invariant-loop-target
invariant-loop-target l =
    record {
      ascending : AllPairs (λ (a b : ℕ × ℕ). a.0 < b.0) l.pairs.items;
      below : All (λ (q : ℕ × ℕ). q.0 < l.target) l.pairs.items;
    }
