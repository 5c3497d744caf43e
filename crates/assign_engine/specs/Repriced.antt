-- The price step, bin by bin.
use Rattle.std.specs.Prelude.{◌≡◌, ◌+◌, ◌<◌, ◌≤◌, ℕ, List, Option, Some, None, length, slice_index}
use Rattle.assign_engine.specs.Seats.{seat}
use Rattle.assign_engine.specs.Roll.{times_in}

-- the bins that had their turn and their items have their new prices
pub record IsRepricing (ats : List (Option ℕ)) (us vs : List ℕ) (distances : List ℕ) (cost : ℕ) (done : List ℕ) (lower higher : List ℕ) : Type 0 where
  pub items : length lower ≡ length us
  pub bins : length higher ≡ length vs
  pub near : (t y : ℕ) → seat ats t ≡ Some y → 0 < times_in done y → slice_index distances y < cost → slice_index lower t + cost ≡ slice_index us t + slice_index distances y
  pub far : (t y : ℕ) → seat ats t ≡ Some y → cost ≤ slice_index distances y → slice_index lower t ≡ slice_index us t
  pub left : (t y : ℕ) → seat ats t ≡ Some y → times_in done y ≡ 0 → slice_index lower t ≡ slice_index us t
  pub out : (t : ℕ) → seat ats t ≡ None → slice_index lower t ≡ slice_index us t
  pub near_bin : (b : ℕ) → 0 < times_in done b → slice_index distances b < cost → slice_index higher b + slice_index distances b ≡ slice_index vs b + cost
  pub far_bin : (b : ℕ) → cost ≤ slice_index distances b → slice_index higher b ≡ slice_index vs b
  pub left_bin : (b : ℕ) → times_in done b ≡ 0 → slice_index higher b ≡ slice_index vs b
