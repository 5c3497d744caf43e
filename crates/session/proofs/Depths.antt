-- A value that was read nests no deeper than a text may, and neither does a member of it.
use Rattle.std.proofs.Common.{◌≡◌, ◌≤◌, ℕ, Bool, true, false, cond, List, Option, Some, None, Ordering, Less, Equal, Greater, subst, arith}
use Rattle.std.specs.Ordering.{nat_cmp, match_ordering}
use Rattle.std.specs.Cmp.Lexicographic.{slice_cmp}
use Rattle.std.specs.Str.{is_utf8}
use Rattle.serde_json.specs.Data.{Data, null, boolean, number, string, array, object, Members, no_members, member, depth, members_depth}
use Rattle.serde_json.specs.Find.{get, get_member}
use Rattle.serde_json.specs.Read.{max_depth, read}
use Rattle.serde_json.proofs.Nesting.{depth-read}
use Rattle.json_values.specs.Texts.{json_of}

depth_by : (utf8 : Bool) (bytes : List ℕ) (d : Data) → cond utf8 (read bytes) None ≡ Some d → depth d ≤ max_depth
depth_by true bytes d says = depth-read bytes d says
depth_by false bytes d says = cc

pub shallow : (bytes : List ℕ) (d : Data) → json_of bytes ≡ Some d → depth d ≤ max_depth
unfolding json_of
shallow bytes d says = depth_by (is_utf8 bytes) bytes d says

by_order : (o : Ordering) (key : List ℕ) (e : Data) (ms : Members) (rest : Option Data) (d : Data) → (rest ≡ Some d → depth d ≤ members_depth ms) → match_ordering o rest (Some e) rest ≡ Some d → depth d ≤ members_depth (member key e ms)
by_order Less key e ms rest d below found = let h = below found in omega arith
by_order Equal key e ms rest d below found = let same : e ≡ d = cc in subst (λ (x : Data). depth x ≤ members_depth (member key e ms)) same (omega arith)
by_order Greater key e ms rest d below found = let h = below found in omega arith

in_members : (name : List ℕ) (ms : Members) (d : Data) → get_member name ms ≡ Some d → depth d ≤ members_depth ms
in_members name no_members d found = cc
in_members name (member key e ms) d found = by_order (slice_cmp nat_cmp name key) key e ms (get_member name ms) d (λ h. in_members name ms d h) found

-- a member nests less deep than its object
pub member_shallow : (name : List ℕ) (d part : Data) → Some part ≡ get name d → depth d ≤ max_depth → depth part ≤ max_depth
member_shallow name null part found h = cc
member_shallow name (boolean b) part found h = cc
member_shallow name (number n) part found h = cc
member_shallow name (string s) part found h = cc
member_shallow name (array ds) part found h = cc
member_shallow name (object ms) part found h = let there : get_member name ms ≡ Some part = cc in omega (arith, in_members name ms part there)
