use Rattle.std.proofs.Common.{◌≡◌, ℕ}
use Rattle.assign_engine.specs.Usable.{one_if}
use Rattle.assign_engine.specs.Seats.{sits, seat}
use Rattle.assign_engine.specs.Roll.{times_in}
use Rattle.assign_engine.specs.Changed.{IsExpanding}
use Rattle.assign_engine.proofs.search.expand.Given as goal

abbrev pub invariant-loop-item : goal.invariant-loop-item
invariant-loop-item l = record {
  listed : (t : ℕ) → times_in l.item-items t ≡ one_if (sits l.bin (seat l.matching.seating.seats t));
  expanding : IsExpanding l.instance l.matching.seating.seats l.matching.item_prices.items l.matching.bin_prices.items l.bin l.base l.item-items l.item-index l.fn.tables l.tables;
}
