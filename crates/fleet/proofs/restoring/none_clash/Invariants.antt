use Rattle.std.proofs.Common.{◌≡◌, [], drop, take}
use Rattle.fleet.specs.Parts.{clashes, none_clash}
use Rattle.fleet.proofs.restoring.none_clash.Given as goal

abbrev pub invariant-loop-i : goal.invariant-loop-i
invariant-loop-i l = none_clash clashes (take l.i l.collectors) (drop l.i l.collectors) ≡ none_clash clashes [] l.collectors
