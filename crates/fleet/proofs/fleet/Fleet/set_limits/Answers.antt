use Rattle.std.proofs.Common.{refl}
use Rattle.fleet.proofs.KeptLemmas.{written_kept}
use Rattle.fleet.proofs.ReachedLemmas.{rows_written}
use Rattle.fleet.proofs.fleet.Fleet.set_limits.Goals as goal

pub invariant_of-self : goal.invariant_of-self
invariant_of-self c = (
  written_kept _ _ _ _ _ c.as_mut_slice.ensures.value c.as_mut_slice.ensures.len c.replace_limits.ensures (λ x. refl) (λ x. refl) c.self.invariant.0,
  rows_written _ _ _ _ _ _ _ c.as_mut_slice.ensures.value c.as_mut_slice.ensures.len c.replace_limits.ensures (λ x. refl) (λ x. refl) c.self.invariant.1,
  c.self.invariant.2,
)
