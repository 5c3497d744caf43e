-- One turn of an agent: what it is told, and what it does outside of itself.
use Rattle.std.specs.Prelude.{◌≡◌, ◌⊎◌, ℕ, List}
use Rattle.agent_core.specs.Agents.{Input, Asked, Cut, Gone, Over, Shown, Taken, Unknown, State, next, reported}
use Rattle.agent_core.specs.declared.sharing.LastScrape.{LastScrape}
use Rattle.agent_core.specs.declared.slot.Point.{Point}
use Rattle.agent_core.specs.declared.target.Series.{Series}
use Rattle.agent_turns.specs.Acts.{Act, Acted, Takes}
use Rattle.agent_turns.specs.declared.outside.Heard.{Heard}
use Rattle.agent_turns.specs.declared.outside.Heard.TheVariants as heard

-- what the allocator shows at a time is told to the agent
abbrev pub after_look : State → ℕ → Heard → State
after_look s at (heard.Lists lists) = next s (Shown at lists.head lists.until lists.targets.keys)
after_look s at heard.Gone = next s (Gone at)
after_look s at heard.Unknown = next s (Unknown at)
after_look s at heard.Nothing = s

-- what it gives at a time is told to the agent
abbrev pub after_take : State → ℕ → Heard → State
after_take s at (heard.Lists lists) = next s (Taken at lists.head lists.until lists.targets.keys)
after_take s at heard.Gone = next s (Gone at)
after_take s at heard.Unknown = next s (Unknown at)
after_take s at heard.Nothing = s

-- What Prometheus said was told to the agent, all of it or as far as there was memory; and what was done then is that what was told is written, and
-- behind that the first of the reports that the agent chose are posted.
pub record Reported {S : Type 0} (may_act : S → Act → S → Type 0) (now : ℕ) (said : List (Series × List Point)) (lasts : List (Series × List LastScrape)) (old new : S) (s t : State) : Type 0 where
  pub input : Input
  pub is : (input ≡ Asked now said lasts) ⊎ ((count : ℕ) × ((more : ℕ) × (input ≡ Cut now said lasts count more)))
  pub acts : Acted may_act old new t.told (reported s input)
  pub state : (t ≡ next s input) ⊎ (t ≡ next (next s input) Over)

-- the same, where Prometheus said anything
abbrev pub Tried : {S : Type 0} → (S → Act → S → Type 0) → S → S → State → State → Type 0
Tried may_act old new s t = ((new ≡ old) × (t ≡ s)) ⊎ ((now : ℕ) × (said : List (Series × List Point)) × (lasts : List (Series × List LastScrape)) × Reported may_act now said lasts old new s t)

-- what came of a take at a time was told to the agent
abbrev pub Settles : ℕ → State → State → Type 0
Settles at s t = (given : Heard) × (t ≡ after_take s at given)

-- nothing was done, or a list was taken
abbrev pub Took : {S : Type 0} → (S → Act → S → Type 0) → S → S → State → State → Type 0
Took may_act old new s t = ((new ≡ old) × (t ≡ s)) ⊎ (may_act old Takes new × ((at : ℕ) × Settles at s t))

-- A turn: the agent is told what the allocator shows, then what Prometheus said, and then what a take came to. Outside of it the state file is written,
-- reports are posted behind that, and then a list is taken.
pub record Turned {S : Type 0} (may_act : S → Act → S → Type 0) (old new : S) (s t : State) : Type 0 where
  pub at : ℕ
  pub shown : Heard
  -- what lies outside and the agent, behind the reports
  pub outside : S
  pub agent : State
  pub reports : Tried may_act old outside (after_look s at shown) agent
  pub take : Took may_act outside new agent t
