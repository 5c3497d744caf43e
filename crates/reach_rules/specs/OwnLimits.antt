-- The limits that a collector has of its own: a finite map from the names of jobs to numbers, as the list of its entries in
-- byte order of the names. 0, or no entry, is no limit.
use Rattle.std.specs.Prelude.{ℕ, List, [], ◌∷◌, fold, Option, Some, option_map, option_and_then, unwrap_or, if◌then◌else◌}
use Rattle.std.specs.FinMap.{find, put}
use Rattle.std.specs.Str.{bytes_eq}
use Rattle.serde_json.specs.Data.{Data, object, Members, no_members, member}
use Rattle.serde_json.specs.Find.{as_object}
use Rattle.json_values.specs.Spelling.{number_in, number_data}
use Rattle.reach_rules.specs.Name.{byte_cmp}

-- the names of jobs, and a number for each
abbrev pub LimitList : Type 0
LimitList = List (List ℕ × ℕ)

-- the limit of a job
abbrev pub own_limit : LimitList → List ℕ → ℕ
own_limit limits job = unwrap_or (find byte_cmp job limits) 0

-- the limits where a job has this one in place of the one that it had
abbrev pub with_limit : LimitList → List ℕ → ℕ → LimitList
with_limit limits job limit = put byte_cmp job limit limits

-- entries set one after the other
abbrev pub limits_of : List (List ℕ × ℕ) → LimitList
limits_of entries = fold (λ limits entry. with_limit limits entry.0 entry.1) [] entries

-- the number in the last entry of a job, 0 where it has none
abbrev pub last_limit : List (List ℕ × ℕ) → List ℕ → ℕ
last_limit entries job = fold (λ limit entry. if bytes_eq job entry.0 then entry.1 else limit) 0 entries

-- ---- as a JSON object, whose members are the entries

-- the entries that the members spell, or nothing where one of them is no whole number
abbrev pub entries_in : Members → Option (List (List ℕ × ℕ))
entries_in no_members = Some []
entries_in (member job d members) = option_and_then (λ limit. option_map (λ entries. (job, limit) ∷ entries) (entries_in members)) (number_in d)

abbrev pub limits_in : Data → Option LimitList
limits_in d = option_and_then (λ members. option_map limits_of (entries_in members)) (as_object d)

abbrev pub limit_members : LimitList → Members
limit_members [] = no_members
limit_members (entry ∷ limits) = member entry.0 (number_data entry.1) (limit_members limits)

abbrev pub limits_data : LimitList → Data
limits_data limits = object (limit_members limits)
