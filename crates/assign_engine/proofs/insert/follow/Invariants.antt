use Rattle.std.proofs.Common.{◌≡◌, slice_index}
use Rattle.price_certificate.specs.Problem.{bins_of}
use Rattle.assign_engine.specs.Seats.{IsSound}
use Rattle.assign_engine.specs.Searched.{IsNear, HasTrail, IsWalking}
use Rattle.assign_engine.specs.Searching.{HasWay, target_of}
use Rattle.assign_engine.proofs.insert.follow.Given as goal

abbrev pub invariant-trail : goal.invariant-trail
invariant-trail l = record {
  near : IsNear l.instance l.tables.distances l.tables.cost l.hole;
  walking : IsWalking l.instance l.fn.matching.seating.seats l.matching.item_prices.items l.matching.item_prices.items l.matching.bin_prices.items l.item l.tables.ranks (target_of l.tables.end l.fn.matching.seating.seats) l.hole l.matching.seating.seats;
  bins : l.matching.seating.bins ≡ bins_of l.instance;
  item_prices : l.matching.item_prices.items ≡ l.fn.matching.item_prices.items;
  bin_prices : l.matching.bin_prices.items ≡ l.fn.matching.bin_prices.items;
  sound : IsSound l.instance l.fn.matching.seating.seats l.matching.item_prices.items l.matching.bin_prices.items;
  trail : HasTrail l.instance l.fn.matching.seating.seats l.matching.item_prices.items l.matching.bin_prices.items l.item l.tables.distances l.tables.vias l.tables.ranks l.tables.cost;
  way : HasWay l.instance l.fn.matching.seating.seats l.matching.item_prices.items l.matching.bin_prices.items l.item l.tables.distances l.tables.vias l.tables.ranks l.tables.cost l.tables.end;
}

abbrev pub decreases-trail : goal.decreases-trail
decreases-trail l = slice_index l.tables.ranks l.hole
