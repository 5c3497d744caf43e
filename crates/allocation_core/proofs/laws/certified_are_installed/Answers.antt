use Rattle.allocation_core.proofs.InstalledLemmas.{certified_are_installed}
use Rattle.allocation_core.proofs.laws.certified_are_installed.Goals as goal

pub returns : goal.returns
returns c = certified_are_installed c.no_fault_is_certified.ensures c.instances_are_problems.ensures
