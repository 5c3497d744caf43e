-- The name of a place that is nearest to another name, by the Levenshtein distance of their characters.
use Rattle.std.specs.Prelude.{ℕ, ◌+◌, List, [], ◌∷◌, length, nat_eq, nat_lt, Option, Some, None, if◌then◌else◌}
use Rattle.std.specs.Str.{chars}
use Rattle.strsim.specs.Edits.{levenshtein_row}
use Rattle.config_members.specs.declared.place.Place.{Place}
use Rattle.config_members.specs.declared.meant.TheConstants.{LONGEST_NAME, MOST_LETTERS}
use Rattle.config_members.specs.Names.{names_read, other_names}

abbrev pub distance : List ℕ → List ℕ → ℕ
distance a b = levenshtein_row nat_eq (chars a) (chars b) (length (chars b))

-- a nearer name has a distance below this
abbrev pub bound_of : List ℕ → Option (List ℕ) → ℕ
bound_of name None = MOST_LETTERS + 1
bound_of name (Some best) = distance name best

abbrev pub nearer : List ℕ → Option (List ℕ) → List ℕ → Option (List ℕ)
nearer name best candidate = if nat_lt (distance name candidate) (bound_of name best) then Some candidate else best

-- the first of the nearest of these names and the best before
abbrev pub nearest_from : List ℕ → Option (List ℕ) → List (List ℕ) → Option (List ℕ)
nearest_from name best [] = best
nearest_from name best (candidate ∷ more) = nearest_from name (nearer name best candidate) more

abbrev pub nearest_name : Place → List ℕ → Option (List ℕ)
nearest_name place name =
    if nat_lt LONGEST_NAME (length name) then None
    else nearest_from name (nearest_from name None (names_read place)) (other_names place)
