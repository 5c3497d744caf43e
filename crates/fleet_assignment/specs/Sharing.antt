-- Targets that share the list of the bins that they may use: what is looked at, and what is made.
use Rattle.std.specs.Prelude.{ℕ, ◌≡◌, ◌<◌, List, All, length, map, slice_get, slice_index, Some}
use Rattle.price_certificate.specs.Rows.{row_at}
use Rattle.fleet.specs.declared.collector.Collector.{Collector}
use Rattle.fleet.specs.Fleet.{FleetState}
use Rattle.fleet_assignment.specs.Instance.{row_for}

-- among the collectors at these places is one with the rules of the collector at another place
pub record IsAsked (collectors : List Collector) (asked : List ℕ) (place : ℕ) : Type 0 where
  pub number : ℕ
  pub within : number < length asked
  pub one : Collector
  pub other : Collector
  pub there : slice_get collectors (slice_index asked number) ≡ Some one
  pub here : slice_get collectors place ≡ Some other
  pub same : one.reach ≡ other.reach

-- there is one with the rules of each collector
abbrev pub AreAsked : List Collector → List ℕ → Type 0
AreAsked collectors asked = (place : ℕ) → place < length collectors → IsAsked collectors asked place

-- the lists are those of these targets, and the list of this number is this target's
pub record IsListOf (fleet : FleetState) (firsts : List ℕ) (list target : ℕ) : Type 0 where
  pub within : list < length firsts
  pub same : row_for fleet (slice_index firsts list) ≡ row_for fleet target

-- each of the targets has the number of its list
pub record IsSharing (fleet : FleetState) (targets : List ℕ) (lists : List (List ℕ)) (firsts numbers : List ℕ) : Type 0 where
  pub lists_of : lists ≡ map (row_for fleet) firsts
  pub within : All (λ (number : ℕ). number < length lists) numbers
  pub rows : map (row_at lists) numbers ≡ map (row_for fleet) targets
