-- The targets that were ever listed, in order of first appearance. A target's number is its place among them.
use Rattle.std.specs.Prelude.{◌≡◌, ℕ, List, [], ◌∷◌, ◌++◌, Bool, true, false, ◌==◌, ◌&&◌, AllPairs, if◌then◌else◌, slice_get}
use Rattle.std.specs.List.{AllZip, list_any, position_or_len}
use Rattle.std.specs.Option.{option_map_or}
use Rattle.std.specs.Str.{bytes_eq}
use Rattle.label_sets.specs.Target.{FinalTarget, target_text}
use Rattle.fleet.specs.declared.known_target.KnownTarget.{KnownTarget}

-- a target's identity is its text within its job
abbrev pub same_known : KnownTarget → KnownTarget → Bool
same_known a b = (a.job == b.job) && bytes_eq (target_text a.target) (target_text b.target)

-- a new target is known behind the others
abbrev pub with_known : List KnownTarget → KnownTarget → List KnownTarget
with_known known target = if list_any (same_known target) known then known else known ++ target ∷ []

-- the number of a target: its place, or the next one where it is new
abbrev pub number_of : List KnownTarget → KnownTarget → ℕ
number_of known target = position_or_len (same_known target) known

-- the known targets after those of a job's list, in the order of the list
abbrev pub known_with : List KnownTarget → ℕ → List FinalTarget → List KnownTarget
known_with known job [] = known
known_with known job (target ∷ targets) = known_with (with_known known (record { job = job; target = target })) job targets

-- the numbers of the targets of a job's list
abbrev pub numbers_of : List KnownTarget → ℕ → List FinalTarget → List ℕ
numbers_of known job [] = []
numbers_of known job (target ∷ targets) =
    number_of known (record { job = job; target = target }) ∷ numbers_of (with_known known (record { job = job; target = target })) job targets

-- the known target of a number is the same as this one
abbrev pub is_same_at : List KnownTarget → KnownTarget → ℕ → Bool
is_same_at known target number = option_map_or (same_known target) (slice_get known number) false

-- What entering a job's list comes to: those that were known keep their numbers, no target is known twice where none was, and
-- the number of each target of the list is that of the same known target.
pub record IsEntered (known : List KnownTarget) (job : ℕ) (targets : List FinalTarget) : Type 0 where
  pub more : List KnownTarget
  pub front : known_with known job targets ≡ known ++ more
  pub once : AllPairs (λ (a b : KnownTarget). same_known b a ≡ false) known → AllPairs (λ (a b : KnownTarget). same_known b a ≡ false) (known_with known job targets)
  pub numbers : AllZip (λ (target : FinalTarget) (number : ℕ). is_same_at (known_with known job targets) (record { job = job; target = target }) number ≡ true) targets (numbers_of known job targets)

abbrev pub TargetsAreEntered : Type 0
TargetsAreEntered = (known : List KnownTarget) (job : ℕ) (targets : List FinalTarget) → IsEntered known job targets
