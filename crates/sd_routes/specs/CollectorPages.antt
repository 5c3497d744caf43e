-- The JSON of collectors. Members stand in byte order of their names.
use Rattle.std.specs.Prelude.{ℕ, List, [], ◌∷◌, codes, Option, Some, None}
use Rattle.serde_json.specs.Data.{Data, null, boolean, string, object, Members, no_members, member, put}
use Rattle.json_values.specs.Spelling.{number_data}
use Rattle.reach_rules.specs.OwnLimits.{limits_data}
use Rattle.reach_rules.specs.Spelling.{reach_data}
use Rattle.sd_routes.specs.declared.collector_row.CollectorRow.{CollectorRow}

-- the members with one for each of the shares
abbrev pub with_held : Members → List (List ℕ × ℕ) → Members
with_held members [] = members
with_held members (share ∷ shares) = with_held (put share.0 (number_data share.1) members) shares

-- how many targets are held, by the names of jobs
abbrev pub held_data : List (List ℕ × ℕ) → Data
held_data shares = object (with_held no_members shares)

abbrev pub number_or_null : Option ℕ → Data
number_or_null None = null
number_or_null (Some number) = number_data number

-- a live collector: its rules and its own limits as they are given
abbrev pub collector_data : CollectorRow → Data
collector_data row =
    object (member (codes "draining") (boolean row.draining)
    (member (codes "held") (held_data row.held)
    (member (codes "id") (number_data row.id)
    (member (codes "last_take") (number_or_null row.last_take)
    (member (codes "limits") (limits_data row.limits)
    (member (codes "name") (string row.name)
    (member (codes "reach") (reach_data row.reach)
    (member (codes "taken_allocation") (number_or_null row.taken) no_members))))))))
