-- What a fit rule has.
use Rattle.std.proofs.Common.{◌≡◌, ◌<◌, ℕ, zero, suc, Bool, true, false, not, ◌&&◌, ◌||◌, ◌==◌, refl, arith}

pub fit_parts : (b c : Bool) (m : ℕ) → b ≡ true → (not b || (c && not (m == 0))) ≡ true → (c ≡ true) × (0 < m)
fit_parts true true zero is h = absurd cc
fit_parts true true (suc m) is h = (refl, omega arith)
fit_parts true false m is h = absurd cc
fit_parts false c m is h = absurd cc
