-- The first fault of a spread: its caps are looked at first, then its plan where nothing was before, then its plan within the caps,
-- and at last how even it is, where it tells that.
use Rattle.std.specs.Prelude.{ℕ, ◌≡◌, ◌↔◌, ◌==◌, List, Option, Some, None, option_map, nat_le, length, slice_index, if◌then◌else◌}
use Rattle.price_certificate.specs.Problem.{Problem, IsProblem, bins_of, capacity_of}
use Rattle.price_certificate.specs.Assignment.{covered, left, moved}
use Rattle.price_certificate.specs.Certificate.{IsCertified}
use Rattle.price_certificate.specs.Faults.{fault_of, first_below, or_else}
use Rattle.price_certificate.specs.Derived.{bare, capped}
use Rattle.spread_certificate.specs.EvenFaults.{even_fault}
use Rattle.spread_certificate.specs.Within.{AreCaps}
use Rattle.spread_certificate.specs.declared.even.Even.{Even as EvenPlan}
use Rattle.spread_certificate.specs.declared.spread.Spread.{Spread}
use Rattle.spread_certificate.specs.declared.verdict.SpreadVerdict.{SpreadVerdict}
use Rattle.spread_certificate.specs.declared.verdict.SpreadVerdict.TheVariants.{Best, Refused}
use Rattle.spread_certificate.specs.declared.verdict.SpreadFault.{SpreadFault}
use Rattle.spread_certificate.specs.declared.verdict.SpreadFault.TheVariants.{WrongCaps, CapTooHigh, Free, Within, Even}

-- the bin of this place has a cap above its capacity
abbrev pub cap_fault_at : Problem → List ℕ → ℕ → Option SpreadFault
cap_fault_at p caps bin = if nat_le (slice_index caps bin) (capacity_of p bin) then None else Some (CapTooHigh bin)

unfoldable pub cap_fault : Problem → List ℕ → Option SpreadFault
cap_fault p caps = if length caps == bins_of p then first_below (cap_fault_at p caps) (bins_of p) else Some WrongCaps

-- the first fault where nothing was before and there are no caps
abbrev pub free_fault : Problem → Spread → Option SpreadFault
free_fault p spread = option_map Free (fault_of (bare p) spread.plan.pairs spread.free_item_prices spread.free_bin_prices)

-- the first fault within the caps
abbrev pub within_fault : Problem → Spread → Option SpreadFault
within_fault p spread = option_map Within (fault_of (capped spread.caps p) spread.plan.pairs spread.plan.item_prices spread.plan.bin_prices)

-- no caps that cost coverage, and none moves fewer within them
unfoldable pub best_fault : Problem → Spread → Option SpreadFault
best_fault p spread = or_else (cap_fault p spread.caps) (or_else (free_fault p spread) (within_fault p spread))

abbrev pub told_fault : Problem → Spread → Option EvenPlan → Option SpreadFault
told_fault p spread None = None
told_fault p spread (Some even) = option_map Even (even_fault p spread even)

unfoldable pub spread_fault : Problem → Spread → Option SpreadFault
spread_fault p spread = or_else (best_fault p spread) (told_fault p spread spread.even)

-- within which slack it is even, if it tells that
abbrev pub slack_of : Option EvenPlan → Option ℕ
slack_of None = None
slack_of (Some even) = Some even.slack

abbrev pub spread_verdict_by : ℕ → ℕ → ℕ → Option ℕ → Option SpreadFault → SpreadVerdict
spread_verdict_by covers leaves moves slack None = Best covers leaves moves slack
spread_verdict_by covers leaves moves slack (Some fault) = Refused fault

abbrev pub spread_verdict : Problem → Spread → SpreadVerdict
spread_verdict p spread = spread_verdict_by (covered spread.plan.pairs) (left p spread.plan.pairs) (moved p spread.plan.pairs) (slack_of spread.even) (spread_fault p spread)

-- Best within the caps by its prices, and they cost no coverage, is exactly what has no such fault.
abbrev pub NoBestFaultIsCertified : Type 0
NoBestFaultIsCertified =
    (p : Problem) (spread : Spread) → IsProblem p
    → (best_fault p spread ≡ None) ↔ (AreCaps p spread.caps × IsCertified (bare p) spread.plan.pairs spread.free_item_prices spread.free_bin_prices × IsCertified (capped spread.caps p) spread.plan.pairs spread.plan.item_prices spread.plan.bin_prices)
