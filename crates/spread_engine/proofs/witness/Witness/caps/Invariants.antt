use Rattle.std.proofs.Common.{◌≡◌, ◌<◌, ℕ, length, get_or}
use Rattle.price_certificate.specs.Assignment.{uses_of_bin}
use Rattle.spread_engine.proofs.witness.Witness.caps.Given as goal

abbrev pub invariant-loop-bin : goal.invariant-loop-bin
invariant-loop-bin l = record { count : length l.caps.items ≡ l.bin; exact : (b : ℕ) → b < l.bin → get_or l.caps.items b 0 ≡ uses_of_bin l.self.pairs b }
