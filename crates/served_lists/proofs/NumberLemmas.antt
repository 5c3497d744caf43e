-- The map of the numbers, as the list of its entries.
use Rattle.std.proofs.Common.{◌≡◌, ℕ, ◌&&◌, List, [], ◌∷◌, Option, None, Some, nat_eq, refl, arith}
use Rattle.std.specs.Prelude.{◌==◌, if◌then◌else◌}
use Rattle.std.proofs.lemmas.Bool.Decides.{nat_tests}
use Rattle.std.specs.Map.{lookup}
use Rattle.indexmap.specs.IndexMap.{insert_entry}
use Rattle.served_lists.specs.Served.{is_job_or_any, number_of, with_number, without_numbers}

pub insert_entry-with_number : (numbers : List ((ℕ × ℕ) × ℕ)) (collector job number : ℕ) → insert_entry (λ (x y : ℕ × ℕ). nat_eq x.0 y.0 && nat_eq x.1 y.1) numbers (collector, job) number ≡ with_number numbers collector job number
insert_entry-with_number [] collector job number = refl
insert_entry-with_number (((c, j), n) ∷ numbers) collector job number = grind (arith, nat_tests, insert_entry-with_number numbers collector job number)

pub number_of-lookup : (numbers : List ((ℕ × ℕ) × ℕ)) (collector job : ℕ) → number_of numbers collector job ≡ lookup (λ (y : ℕ × ℕ). nat_eq collector y.0 && nat_eq job y.1) numbers
number_of-lookup [] collector job = refl
number_of-lookup (((c, j), n) ∷ numbers) collector job = grind (arith, nat_tests, number_of-lookup numbers collector job)

-- the number that was set is the one that is found, and those of other lists stay
pub number_of-with_number : (numbers : List ((ℕ × ℕ) × ℕ)) (collector job number c j : ℕ) → number_of (with_number numbers collector job number) c j ≡ (if (c == collector) && (j == job) then Some number else number_of numbers c j)
number_of-with_number [] collector job number c j = grind (arith, nat_tests)
number_of-with_number (((x, y), n) ∷ numbers) collector job number c j = grind (arith, nat_tests, number_of-with_number numbers collector job number c j)

-- the numbers of lists that are let go are found no more, and those of other lists stay
pub number_of-without_numbers : (numbers : List ((ℕ × ℕ) × ℕ)) (collector : ℕ) (job : Option ℕ) (c j : ℕ) → number_of (without_numbers numbers collector job) c j ≡ (if (c == collector) && is_job_or_any job j then None else number_of numbers c j)
number_of-without_numbers [] collector job c j = grind (arith, nat_tests)
number_of-without_numbers (((x, y), n) ∷ numbers) collector None c j = grind (arith, nat_tests, number_of-without_numbers numbers collector None c j)
number_of-without_numbers (((x, y), n) ∷ numbers) collector (Some job) c j = grind (arith, nat_tests, number_of-without_numbers numbers collector (Some job) c j)
