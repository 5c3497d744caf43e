-- The members of an object without those of some names.
use Rattle.std.specs.Prelude.{ℕ, List, Bool, if◌then◌else◌}
use Rattle.serde_json.specs.Data.{Data, Members, no_members, member, put}

abbrev pub members_but : (List ℕ → Bool) → Members → Members
members_but is_left_out no_members = no_members
members_but is_left_out (member name d ms) = if is_left_out name then members_but is_left_out ms else member name d (members_but is_left_out ms)

-- the members, with this one at its name unless it is left out
abbrev pub with_member : (List ℕ → Bool) → List ℕ → Data → Members → Members
with_member is_left_out name d ms = if is_left_out name then ms else put name d ms
