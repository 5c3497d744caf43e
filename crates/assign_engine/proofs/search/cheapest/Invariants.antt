use Rattle.std.proofs.Common.{◌≡◌, ◌<◌, ◌≤◌, ℕ, Some, IfSome, IfNone, slice_index}
use Rattle.assign_engine.specs.Usable.{one_if}
use Rattle.assign_engine.specs.Seats.{sits, seat}
use Rattle.assign_engine.specs.Roll.{times_in}
use Rattle.assign_engine.proofs.search.cheapest.Given as goal

abbrev pub invariant-loop-item : goal.invariant-loop-item
invariant-loop-item l = record {
  listed : (t : ℕ) → times_in l.item-items t ≡ one_if (sits l.bin (seat l.matching.seating.seats t));
  seated : IfSome l.best (λ r. seat l.matching.seating.seats r.0 ≡ Some l.bin);
  price : IfSome l.best (λ r. r.1 ≡ slice_index l.matching.item_prices.items r.0);
  least : IfSome l.best (λ r. (k : ℕ) → k < l.item-index → r.1 ≤ slice_index l.matching.item_prices.items (slice_index l.item-items k));
  none : IfNone l.best (l.item-index ≡ 0);
}
