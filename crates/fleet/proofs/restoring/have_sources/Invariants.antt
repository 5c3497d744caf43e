use Rattle.std.proofs.Common.{◌≡◌, drop}
use Rattle.fleet.specs.Parts.{have_sources}
use Rattle.fleet.proofs.restoring.have_sources.Given as goal

abbrev pub invariant-loop-i : goal.invariant-loop-i
invariant-loop-i l = have_sources (drop l.i l.jobs) (drop l.i l.listed) ≡ have_sources l.jobs l.listed
