use Rattle.allocation_core.proofs.InstalledLemmas.{spreads_are_installed}
use Rattle.allocation_core.proofs.laws.spreads_are_installed.Goals as goal

pub returns : goal.returns
returns c = spreads_are_installed c.no_best_fault_is_certified.ensures c.instances_are_problems.ensures
