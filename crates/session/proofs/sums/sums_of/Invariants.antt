use Rattle.std.proofs.Common.{◌≡◌, ◌≤◌, ◌*◌, drop}
use Rattle.session.specs.Lines.{no_sums, sums_from}
use Rattle.session.proofs.sums.sums_of.Given as goal

abbrev pub invariant-loop-turn : goal.invariant-loop-turn
invariant-loop-turn l =
    record {
      sums : sums_from l.sums (drop l.turn-index l.turns) ≡ sums_from no_sums l.turns;
      booked : l.sums.booked ≤ 4294967295 * l.turn-index;
      refused : l.sums.refused ≤ 4294967295 * l.turn-index;
      samples : l.sums.samples ≤ 18446744073709551615 * l.turn-index;
    }
