use Rattle.std.proofs.Common.{◌≡◌, ◌++◌, length, take}
use Rattle.fleet.specs.KnownTarget.{known_with, numbers_of}
use Rattle.fleet.proofs.listing.enter.Given as goal

abbrev pub invariant-loop-target : goal.invariant-loop-target
invariant-loop-target l =
    record {
      numbers : l.numbers.items ++ numbers_of l.known.keys l.job l.target-iterator.rest.items ≡ numbers_of l.fn.known.keys l.job l.fn.targets;
      known : known_with l.known.keys l.job l.target-iterator.rest.items ≡ known_with l.fn.known.keys l.job l.fn.targets;
      before : take (length l.fn.known.keys) l.known.keys ≡ l.fn.known.keys;
    }
