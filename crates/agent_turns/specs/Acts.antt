-- What an agent does outside of itself, and in which order.
use Rattle.std.specs.Prelude.{◌≡◌, ◌⊎◌, ℕ, Bool, true, false, List, [], ◌∷◌, map, take}
use Rattle.serde_json.specs.Written.{compact_text}
use Rattle.agent_core.specs.Told.{Told}
use Rattle.agent_core.specs.declared.report.Report.{Report}
use Rattle.agent_documents.specs.States.{state_data}

pub data Act : Type 0 where
  -- the state file was written, and whether it is on the device
  Wrote : (text : List ℕ) (done : Bool) → Act
  Posts : (report : Report) → Act
  -- a list was taken
  Takes : Act

-- these acts, one after the other, may lead from the first state to the second
abbrev pub Runs : {S : Type 0} → (S → Act → S → Type 0) → S → List Act → S → Type 0
Runs may_act old [] new = new ≡ old
Runs {S} may_act old (act ∷ acts) new = (mid : S) × may_act old act mid × Runs may_act mid acts new

-- what is written of what was told
abbrev pub written : Told → Bool → Act
written told done = Wrote (compact_text (state_data told)) done

-- reports are posted
abbrev pub posts : List Report → List Act
posts reports = map (λ (r : Report). Posts r) reports

-- Nothing was done; or the state was written and is not on the device, and nothing was posted; or it is there, and behind it the first of the
-- reports were posted, in their order.
abbrev pub IsWrittenFirst : List Act → Told → List Report → Type 0
IsWrittenFirst acts told reports = (acts ≡ []) ⊎ ((acts ≡ written told false ∷ []) ⊎ ((count : ℕ) × (acts ≡ written told true ∷ posts (take count reports))))

-- what was done
pub record Acted {S : Type 0} (may_act : S → Act → S → Type 0) (old new : S) (told : Told) (reports : List Report) : Type 0 where
  pub acts : List Act
  pub run : Runs may_act old acts new
  pub first : IsWrittenFirst acts told reports

-- the first of these reports were posted
pub record PostedFirst {S : Type 0} (may_act : S → Act → S → Type 0) (old new : S) (reports : List Report) : Type 0 where
  pub count : ℕ
  pub run : Runs may_act old (posts (take count reports)) new
