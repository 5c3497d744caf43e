use Rattle.std.proofs.Common.{◌≡◌, ◌<◌, ℕ, false, None, length, get_or, take}
use Rattle.price_certificate.specs.Faults.{first_below, repeat_fault_at, stands_in}
use Rattle.price_certificate.proofs.faults.find_item_twice.Given as goal

abbrev pub invariant-loop-place : goal.invariant-loop-place
invariant-loop-place l = record {
  none : first_below (repeat_fault_at l.pairs) l.place ≡ None;
  each : length l.seen.items ≡ l.items;
  marks : (item : ℕ) → item < l.items → get_or l.seen.items item false ≡ stands_in (take l.place l.pairs) item;
}
