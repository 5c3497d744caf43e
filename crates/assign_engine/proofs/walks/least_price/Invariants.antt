use Rattle.std.proofs.Common.{◌≡◌, ◌+◌, ◌<◌, ◌≤◌, ℕ, slice_index}
use Rattle.price_certificate.specs.Problem.{row_of, weight_of}
use Rattle.assign_engine.proofs.walks.least_price.Given as goal

abbrev pub invariant-loop-bin : goal.invariant-loop-bin
invariant-loop-bin l = record {
  row : l.bin-items ≡ row_of l.instance l.item;
  least : (k : ℕ) → k < l.bin-index → weight_of l.instance l.item (slice_index (row_of l.instance l.item) k) ≤ l.least + slice_index l.matching.bin_prices.items (slice_index (row_of l.instance l.item) k);
}
