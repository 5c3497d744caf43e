-- The lists that an agent's Prometheus is served.
use Rattle.std.specs.Prelude.{ℕ, ◌==◌, List, [], ◌∷◌, Option, Some, None, option_and_then, slice_get, if◌then◌else◌}
use Rattle.std.specs.List.{cons_option}
use Rattle.agent_core.specs.declared.target.Listed.{Listed}

-- the group of the target at a place, where it is of the job
abbrev pub group_at : List Listed → ℕ → ℕ → Option (List ℕ)
group_at targets job place = option_and_then (λ (l : Listed). if l.job == job then Some l.group else None) (slice_get targets place)

-- the groups of the targets of a job at these places, in their order
abbrev pub groups_of : List Listed → ℕ → List ℕ → List (List ℕ)
groups_of targets job [] = []
groups_of targets job (place ∷ places) = cons_option (group_at targets job place) (groups_of targets job places)
