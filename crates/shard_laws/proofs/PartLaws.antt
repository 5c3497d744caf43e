-- The best of a fleet and of its parts.
use Rattle.std.proofs.Common.{◌≡◌, ◌<◌, ◌≤◌, ℕ, List, length}
use Rattle.fleet.specs.Fleet.{FleetState}
use Rattle.fleet_assignment.specs.Best.{IsBest, IsSound, left_by, moved_by}
use Rattle.fleet_assignment.specs.Within.{AreWithin, IsBestWithin}
use Rattle.shard_laws.specs.Parts.{BestIsBestInParts, BestWithinIsSoInParts, pairs_of, part_of}
use Rattle.shard_laws.proofs.FleetParts.{split_of, within_joined, within_parted}
use Rattle.shard_laws.proofs.Splits.{Top, part_best, whole_best}

abbrev any : List (ℕ × ℕ) → Type 0
any xs = Unit {0}

top_of : (fleet : FleetState) (before pairs : List (ℕ × ℕ)) → IsBest fleet before pairs → Top (IsSound fleet) any (left_by fleet) (moved_by fleet before) pairs
top_of fleet before pairs b = record { is_sound = b.sound; is_within = tt; covers = b.covers; leaves = b.leaves; moves = λ others s w. b.moves others s }

best_of : (fleet : FleetState) (before pairs : List (ℕ × ℕ)) → Top (IsSound fleet) any (left_by fleet) (moved_by fleet before) pairs → IsBest fleet before pairs
best_of fleet before pairs t = record { sound = t.is_sound; covers = t.covers; leaves = t.leaves; moves = λ others s. t.moves others s tt }

pub best_is_best_in_parts : BestIsBestInParts
best_is_best_in_parts part n fleet before pairs valid parted =
    let s = split_of part n fleet before valid parted any (λ p. any) (λ xs w p l. tt) (λ xs each. tt) in (
      λ b p l. best_of (part_of part p fleet) (pairs_of part p fleet.known before) (pairs_of part p fleet.known pairs) (part_best s pairs (top_of fleet before pairs b) p l),
      λ each. best_of fleet before pairs (whole_best s pairs (λ p l. top_of (part_of part p fleet) (pairs_of part p fleet.known before) (pairs_of part p fleet.known pairs) (each p l))),
    )

top_within : (fleet : FleetState) (caps : List ℕ) (before pairs : List (ℕ × ℕ)) → IsBestWithin fleet caps before pairs → Top (IsSound fleet) (AreWithin fleet caps) (left_by fleet) (moved_by fleet before) pairs
top_within fleet caps before pairs b = record { is_sound = b.sound; is_within = b.within; covers = b.covers; leaves = b.leaves; moves = b.moves }

best_within : (fleet : FleetState) (caps : List ℕ) (before pairs : List (ℕ × ℕ)) → Top (IsSound fleet) (AreWithin fleet caps) (left_by fleet) (moved_by fleet before) pairs → IsBestWithin fleet caps before pairs
best_within fleet caps before pairs t = record { sound = t.is_sound; within = t.is_within; covers = t.covers; leaves = t.leaves; moves = t.moves }

pub best_within_is_so_in_parts : BestWithinIsSoInParts
best_within_is_so_in_parts part n fleet caps before pairs valid parted =
    let s = split_of part n fleet before valid parted (AreWithin fleet caps) (λ p. AreWithin (part_of part p fleet) caps) (λ xs w p l. within_parted part p fleet caps xs w) (λ xs each. within_joined part n fleet caps parted xs each) in (
      λ b p l. best_within (part_of part p fleet) caps (pairs_of part p fleet.known before) (pairs_of part p fleet.known pairs) (part_best s pairs (top_within fleet caps before pairs b) p l),
      λ each. best_within fleet caps before pairs (whole_best s pairs (λ p l. top_within (part_of part p fleet) caps (pairs_of part p fleet.known before) (pairs_of part p fleet.known pairs) (each p l))),
    )
