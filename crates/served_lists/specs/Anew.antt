-- Targets and jobs that are numbered anew, and the lists in the new numbers.
use Rattle.std.specs.Prelude.{◌≡◌, ◌⊎◌, ℕ, false, List, [], Option, Some}
use Rattle.std.specs.List.{filter_map}
use Rattle.std.specs.Option.{option_map_or}
use Rattle.fleet.specs.Orderly.{is_of}
use Rattle.fleet.specs.declared.known_target.KnownTarget.{KnownTarget}
use Rattle.served_lists.specs.Served.{slot_of}
use Rattle.served_lists.specs.Told.{Tells}

-- the list of a new job: that of the job before, if there was one, in the new numbers
abbrev pub renewed_lists : (ℕ → Option ℕ) → (ℕ → Option ℕ) → (ℕ → ℕ → List ℕ) → ℕ → ℕ → List ℕ
renewed_lists number was lists collector job = option_map_or (λ (old_job : ℕ). filter_map number (lists collector old_job)) (was job) []

-- The known targets and the slots once targets have new numbers: number gives that of each target that goes on, was the old place
-- of each new job.
pub record IsRenewed (number was : ℕ → Option ℕ) (known renewed_known : List KnownTarget) (slots renewed_slots : List ℕ) : Type 0 where
  -- a target that goes on keeps its slot
  pub slots_stay : (old n : ℕ) → number old ≡ Some n → slot_of renewed_slots n ≡ slot_of slots old
  -- and its job
  pub jobs_stay : (old n job : ℕ) → number old ≡ Some n → is_of renewed_known job n ≡ option_map_or (λ (old_job : ℕ). is_of known old_job old) (was job) false
  -- no list has another number
  pub no_others : (n : ℕ) → (slot_of renewed_slots n ≡ 0) ⊎ ((old : ℕ) × (number old ≡ Some n))

abbrev pub RenewedTells : Type 0
RenewedTells =
    (number was : ℕ → Option ℕ) (known renewed_known : List KnownTarget) (slots renewed_slots : List ℕ) (lists : ℕ → ℕ → List ℕ) → IsRenewed number was known renewed_known slots renewed_slots → Tells known slots lists
    → Tells renewed_known renewed_slots (renewed_lists number was lists)
