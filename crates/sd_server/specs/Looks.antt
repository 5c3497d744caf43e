-- The head of a list, and what a look finds.
use Rattle.std.specs.Prelude.{◌≡◌, ◌⊎◌, ℕ, List, Option, Some, None, length}
use Rattle.allocation_core.specs.State.{State, current_of, held_by, left_out_at, list_at}
use Rattle.allocation_core.specs.Steps.{place_of}
use Rattle.sd_routes.specs.declared.list_head.ListHead.{ListHead}
use Rattle.sd_server.specs.declared.look.Look.{Look}

-- the head tells this
pub record HeadIs (id number opened : ℕ) (others : Option ℕ) (head : ListHead) : Type 0 where
  pub collector : head.collector ≡ id
  pub allocation : head.allocation ≡ number
  pub round : head.round ≡ opened
  pub left_out : head.left_out ≡ others

-- it finds these targets now, and that so many are left out, if that is told
pub record Finds (m : State) (found : List ℕ) (others : Option ℕ) (look : Look) : Type 0 where
  pub allocation : look.allocation ≡ current_of m
  pub round : look.round ≡ m.round
  pub targets : look.targets ≡ found
  pub left_out : look.left_out ≡ others

-- what the collector holds
abbrev pub FindsHeld : State → ℕ → Look → Type 0
FindsHeld m id look = Finds m (held_by m id) None look

-- what its list of the job would have if it were served now
abbrev pub FindsList : State → List ℕ → ℕ → Look → Type 0
FindsList m job id look = Finds m (list_at m id (place_of m job)) (Some (length (left_out_at m id (place_of m job)))) look

abbrev pub IsLook : State → List ℕ → ℕ → Look → Type 0
IsLook m job id look = FindsHeld m id look ⊎ FindsList m job id look
