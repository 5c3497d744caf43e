-- Which targets are live, and how the lists of the sources change. A list of numbers stands for a set: it ascends.
use Rattle.std.specs.Prelude.{◌≡◌, ℕ, zero, suc, ◌+◌, ◌<◌, List, [], ◌∷◌, ◌++◌, Bool, false, ◌==◌, ◌&&◌, ◌||◌, not, if◌then◌else◌, length, slice_index_or, slice_set}
use Rattle.std.specs.List.{list_any}

-- the numbers below n that pass, in ascending order
abbrev pub chosen_below : (ℕ → Bool) → ℕ → List ℕ
chosen_below p zero = []
chosen_below p (suc n) = chosen_below p n ++ (if p n then n ∷ [] else [])

-- how many of the numbers below n pass
abbrev pub count_below : (ℕ → Bool) → ℕ → ℕ
count_below p zero = 0
count_below p (suc n) = count_below p n + (if p n then 1 else 0)

abbrev pub is_in : List ℕ → ℕ → Bool
is_in numbers target = list_any (λ (other : ℕ). other == target) numbers

-- a source of the job lists the target
abbrev pub is_listed_in : List (List ℕ) → ℕ → Bool
is_listed_in sources target = list_any (λ (numbers : List ℕ). is_in numbers target) sources

-- a source lists the target. It is one of the target's job, since a source lists targets of its job alone
abbrev pub is_listed : List (List (List ℕ)) → ℕ → Bool
is_listed listed target = list_any (λ (sources : List (List ℕ)). is_listed_in sources target) listed

-- the source of the job lists these numbers, in place of those before
abbrev pub with_list : List (List (List ℕ)) → ℕ → ℕ → List ℕ → List (List (List ℕ))
with_list listed job source numbers = slice_set listed job (slice_set (slice_index_or listed job []) source numbers)

-- how many of the first n targets are listed in one and not in the other
abbrev pub listed_only : List (List (List ℕ)) → List (List (List ℕ)) → ℕ → ℕ
listed_only these those n = count_below (λ target. is_listed these target && not (is_listed those target)) n

-- a mark for each number
abbrev pub mark_at : List Bool → ℕ → Bool
mark_at marks n = slice_index_or marks n false

-- exactly the numbers that pass are marked
pub record AreMarks (p : ℕ → Bool) (marks : List Bool) : Type 0 where
  pub at : (n : ℕ) → n < length marks → mark_at marks n ≡ p n

-- the numbers that pass are marked too
pub record AddsMarks (p : ℕ → Bool) (old new : List Bool) : Type 0 where
  pub same : length new ≡ length old
  pub at : (n : ℕ) → n < length old → mark_at new n ≡ (mark_at old n || p n)
