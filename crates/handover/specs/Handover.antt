-- Published allocations, and who took which.
use Rattle.std.specs.Prelude.{ℕ, zero, suc, ◌==◌, Bool, false, List, [], ◌∷◌, if◌then◌else◌, length, slice_index_or, filter, map, Option, Some, None, option_map}

pub record Handover : Type 0 where
  -- the allocations from number 1 on, each a list of (target, collector), strictly ascending by target. Number 0 is empty
  pub published : List (List (ℕ × ℕ))
  -- the collectors that took an allocation, in order of their first time, each beside the number of the one that it took last
  pub taken : List (ℕ × ℕ)

-- nothing is published, and nobody took anything
abbrev pub nothing_published : Handover
nothing_published = record { published = []; taken = [] }

-- the allocation alone, or nothing where it is empty
abbrev pub only : List (ℕ × ℕ) → List (List (ℕ × ℕ))
only [] = []
only (q ∷ pairs) = (q ∷ pairs) ∷ []

-- this allocation is the first and only one, and nobody took anything
abbrev pub carried_over : List (ℕ × ℕ) → Handover
carried_over pairs = record { published = only pairs; taken = [] }

-- the allocation of a number, the empty one where there is none
abbrev pub allocation_at : List (List (ℕ × ℕ)) → ℕ → List (ℕ × ℕ)
allocation_at published zero = []
allocation_at published (suc before) = slice_index_or published before []

-- the current allocation
abbrev pub last_of : List (List (ℕ × ℕ)) → List (ℕ × ℕ)
last_of published = allocation_at published (length published)

-- what stands beside a number, the first where there are several
abbrev pub beside : List (ℕ × ℕ) → ℕ → Option ℕ
beside [] number = None
beside (q ∷ pairs) number = if q.0 == number then Some q.1 else beside pairs number

-- the holder of a target in the allocation of a number
abbrev pub holder_in : List (List (ℕ × ℕ)) → ℕ → ℕ → Option ℕ
holder_in published number target = beside (allocation_at published number) target

-- whether it is the collector
abbrev pub holds : Option ℕ → ℕ → Bool
holds None collector = false
holds (Some holder) collector = holder == collector

-- the least number from which on, up to one that a collector holds a target at, it holds it at each
abbrev pub since_of : List (List (ℕ × ℕ)) → ℕ → ℕ → ℕ → ℕ
since_of published target collector zero = 0
since_of published target collector (suc before) = if holds (holder_in published before target) collector then since_of published target collector before else suc before

-- from which allocation on its holder in the current one has held a target without a break, if somebody holds it
abbrev pub held_since : List (List (ℕ × ℕ)) → ℕ → Option ℕ
held_since published target = option_map (λ collector. since_of published target collector (length published)) (holder_in published (length published) target)

-- the targets beside a collector
abbrev pub targets_of : List (ℕ × ℕ) → ℕ → List ℕ
targets_of pairs collector = map (λ (q : ℕ × ℕ). q.0) (filter (λ (q : ℕ × ℕ). q.1 == collector) pairs)

-- what a collector holds in the allocation of a number
abbrev pub held_in : List (List (ℕ × ℕ)) → ℕ → ℕ → List ℕ
held_in published number collector = targets_of (allocation_at published number) collector

-- the number of the allocation that a collector took last, 0 if none
abbrev pub taken_by : List (ℕ × ℕ) → ℕ → ℕ
taken_by [] collector = 0
taken_by (q ∷ taken) collector = if q.0 == collector then q.1 else taken_by taken collector

-- the same, with one number set
abbrev pub with_taken : List (ℕ × ℕ) → ℕ → ℕ → List (ℕ × ℕ)
with_taken [] collector number = (collector, number) ∷ []
with_taken (q ∷ taken) collector number = if q.0 == collector then (collector, number) ∷ taken else q ∷ with_taken taken collector number
