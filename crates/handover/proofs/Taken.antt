-- The map of who took what, as the list of its entries.
use Rattle.std.proofs.Common.{◌≡◌, ℕ, List, [], ◌∷◌, nat_eq, refl, arith}
use Rattle.std.specs.Option.{unwrap_or}
use Rattle.std.proofs.lemmas.Bool.Decides.{nat_tests}
use Rattle.indexmap.specs.IndexMap.{insert_entry}
use Rattle.std.specs.Map.{lookup}
use Rattle.handover.specs.Handover.{taken_by, with_taken}

pub insert_entry-with_taken : (taken : List (ℕ × ℕ)) (collector number : ℕ) → insert_entry nat_eq taken collector number ≡ with_taken taken collector number
insert_entry-with_taken [] collector number = refl
insert_entry-with_taken (q ∷ taken) collector number = grind (arith, nat_tests, insert_entry-with_taken taken collector number)

pub taken_by-lookup : (taken : List (ℕ × ℕ)) (collector : ℕ) → taken_by taken collector ≡ unwrap_or (lookup (nat_eq collector) taken) 0
taken_by-lookup [] collector = refl
taken_by-lookup (q ∷ taken) collector = grind (arith, nat_tests, taken_by-lookup taken collector)
