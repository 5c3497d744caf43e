use Rattle.std.proofs.Common.{◌≡◌, ◌+◌, ◌≤◌}
use Rattle.price_certificate.specs.Assignment.{kept}
use Rattle.spread_engine.specs.Witness.{IsShifted}
use Rattle.spread_engine.proofs.witness.Witness.shift_all.Given as goal

abbrev pub invariant-loop-index : goal.invariant-loop-index
invariant-loop-index l = record {
  shifted : IsShifted l.instance l.fn.self.pairs l.self.pairs;
  kept : kept l.instance l.fn.self.pairs ≤ kept l.instance l.self.pairs + l.made;
  bins : l.self.bins ≡ l.fn.self.bins;
  most : l.made ≤ l.index;
}
