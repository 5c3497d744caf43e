-- What a member's default means: a rule that spells it out is the rule that leaves the member out.
use Rattle.std.specs.Prelude.{◌≡◌, ◌⊎◌, List, ℕ, Option, Some, None, true, codes, is_some}
use Rattle.serde_json.specs.Data.{Data, string, array, no_items}
use Rattle.serde_json.specs.Find.{as_object, get}
use Rattle.relabel.specs.Spelling.{rule_said}

-- the member is the same in both, or the second spells out what the first leaves out
abbrev pub IsSpelledOut : List ℕ → Data → Data → Data → Type 0
IsSpelledOut name default short long = (get name long ≡ get name short) ⊎ ((get name short ≡ None) × (get name long ≡ Some default))

-- two objects that differ at most in defaults that are spelled out
pub record DiffersInDefaults (short long : Data) : Type 0 where
  pub is_object : is_some (as_object short) ≡ true
  pub is_object_too : is_some (as_object long) ≡ true
  pub source_labels : IsSpelledOut (codes "source_labels") (array no_items) short long
  pub separator : IsSpelledOut (codes "separator") (string (codes ";")) short long
  pub target_label : get (codes "target_label") long ≡ get (codes "target_label") short
  pub pattern : IsSpelledOut (codes "regex") (string (codes "(.*)")) short long
  pub modulus : get (codes "modulus") long ≡ get (codes "modulus") short
  pub replacement : IsSpelledOut (codes "replacement") (string (codes "$1")) short long
  pub action : IsSpelledOut (codes "action") (string (codes "replace")) short long

abbrev pub DefaultsMayBeLeftOut : Type 0
DefaultsMayBeLeftOut = (short long : Data) → DiffersInDefaults short long → rule_said long ≡ rule_said short
