-- The members of a join, and how long the texts of its rules may be.
use Rattle.std.specs.Prelude.{ℕ, List, [], ◌∷◌, length, nat_le, Bool, true, false, ◌&&◌, Option, Some, None, option_and_then, codes, if◌then◌else◌}
use Rattle.std.specs.List.{list_any}
use Rattle.std.specs.Option.{option_map_or}
use Rattle.std.specs.Str.{bytes_eq}
use Rattle.serde_json.specs.Data.{Data, Items, no_items, item, Members, no_members, member}
use Rattle.serde_json.specs.Find.{as_array, as_object, as_str, get}
use Rattle.sd_routes.specs.declared.join_members.TheConstants.{LONGEST_LABEL, LONGEST_VALUE}

-- those of the event, whose own name may stand there too
abbrev pub is_join_member : List ℕ → Bool
is_join_member name = list_any (bytes_eq name) (codes "event" ∷ codes "limits" ∷ codes "name" ∷ codes "reach" ∷ [])

-- the first other member in byte order
abbrev pub other_member : Members → Option (List ℕ)
other_member no_members = None
other_member (member name d ms) = if is_join_member name then other_member ms else Some name

-- ---- texts of rules

-- no text that is longer
abbrev pub is_short_text : ℕ → Option Data → Bool
is_short_text most found = option_map_or (λ text. nat_le (length text) most) (option_and_then as_str found) true

abbrev pub is_short_rule : Data → Bool
is_short_rule d = is_short_text LONGEST_LABEL (get (codes "label") d) && is_short_text LONGEST_VALUE (get (codes "value") d)

abbrev pub are_short : Items → Bool
are_short no_items = true
are_short (item d ds) = is_short_rule d && are_short ds

-- the rules of a reach, where they are a list
abbrev pub is_short_reach : Option Data → Bool
is_short_reach found = option_map_or are_short (option_and_then as_array found) true

-- ---- both

-- an object without other members, and without longer texts
abbrev pub is_join_object : Data → Bool
is_join_object d = option_map_or (λ members. option_map_or (λ name. false) (other_member members) true) (as_object d) false && is_short_reach (get (codes "reach") d)
