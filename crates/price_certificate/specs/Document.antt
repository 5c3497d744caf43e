-- The JSON document of a certificate (JSON is RFC 8259, as `serde_json` reads it). It is an object: `version` is 1 or 2, `bins`
-- has the limits, `draining` in version 2 the bins that drain, `reach` the bins of each item, `before` and `pairs` have
-- pairs of an item and a bin, and `item_prices` and `bin_prices` the prices. Other members don't matter, in version 1
-- `draining` neither.
use Rattle.std.specs.Prelude.{◌≡◌, ◌+◌, ℕ, Bool, true, false, List, [], ◌∷◌, Option, Some, None, codes}
use Rattle.serde_json.specs.Data.{Data, object, no_members, member}
use Rattle.json_values.specs.Texts.{ReadsAs}
use Rattle.json_values.specs.Spelling.{number_in, pair_in, list_in, member_in, number_data, pair_data, list_data}
use Rattle.price_certificate.specs.Problem.{Problem, IsShaped, IsProblemOf}
use Rattle.price_certificate.specs.Reach.{reach_data, rows_in}
use Rattle.price_certificate.specs.declared.version.Version.{Version}
use Rattle.price_certificate.specs.declared.version.Version.TheVariants.{One, Two}

-- the number of a version
abbrev pub version_number : Version → ℕ
version_number One = 1
version_number Two = 2

-- the draining bins that a document of a version has
abbrev pub draining_in : Version → Data → Option (List ℕ)
draining_in One d = Some []
draining_in Two d = member_in (list_in number_in) (codes "draining") d

-- the data has these members of an instance
pub record SpellsParts (d : Data) (version : Version) (limits draining : List ℕ) (rows : List (List ℕ)) (preceding : List (ℕ × ℕ)) : Type 0 where
  pub number : member_in number_in (codes "version") d ≡ Some (version_number version)
  pub bins : member_in (list_in number_in) (codes "bins") d ≡ Some limits
  pub drains : draining_in version d ≡ Some draining
  pub reach : member_in rows_in (codes "reach") d ≡ Some rows
  pub before : member_in (list_in pair_in) (codes "before") d ≡ Some preceding

-- the data has these members of a plan
pub record SpellsPlan (d : Data) (assignment : List (ℕ × ℕ)) (of_items of_bins : List ℕ) : Type 0 where
  pub pairs : member_in (list_in pair_in) (codes "pairs") d ≡ Some assignment
  pub item_prices : member_in (list_in number_in) (codes "item_prices") d ≡ Some of_items
  pub bin_prices : member_in (list_in number_in) (codes "bin_prices") d ≡ Some of_bins

-- the data has the parts of this instance, which are within the limits
pub record SpellsInstance (d : Data) (p : Problem) : Type 0 where
  pub version : Version
  pub limits : List ℕ
  pub draining : List ℕ
  pub rows : List (List ℕ)
  pub preceding : List (ℕ × ℕ)
  pub parts : SpellsParts d version limits draining rows preceding
  pub shaped : IsShaped limits draining rows preceding
  pub same : IsProblemOf p version limits draining rows preceding

-- the bytes are the document of this instance
pub record IsInstanceDocument (bytes : List ℕ) (p : Problem) : Type 0 where
  pub says : Data
  pub json : ReadsAs bytes says
  pub instance : SpellsInstance says p

-- the bytes are the document of this instance and this plan
pub record IsDocument (bytes : List ℕ) (p : Problem) (pairs : List (ℕ × ℕ)) (item_prices bin_prices : List ℕ) : Type 0 where
  pub says : Data
  pub json : ReadsAs bytes says
  pub instance : SpellsInstance says p
  pub plan : SpellsPlan says pairs item_prices bin_prices

-- ---- the one form that is written: members in order of their names, pairs before in order of items

-- the pairs of an item and its bin, from this item on
abbrev pub pairs_from : ℕ → List (Option ℕ) → List (ℕ × ℕ)
pairs_from n [] = []
pairs_from n (None ∷ places) = pairs_from (n + 1) places
pairs_from n (Some bin ∷ places) = (n, bin) ∷ pairs_from (n + 1) places

-- the bins that are marked, from this bin on
abbrev pub marked_from : ℕ → List Bool → List ℕ
marked_from n [] = []
marked_from n (false ∷ marks) = marked_from (n + 1) marks
marked_from n (true ∷ marks) = n ∷ marked_from (n + 1) marks

-- the object with these members, in order of their names
abbrev pub object_of : Version → Data → Data → Data → Data → Data → Data → Data → Data
object_of One before bin_prices bins draining item_prices pairs reach =
    object (member (codes "before") before
    (member (codes "bin_prices") bin_prices
    (member (codes "bins") bins
    (member (codes "item_prices") item_prices
    (member (codes "pairs") pairs
    (member (codes "reach") reach
    (member (codes "version") (number_data 1) no_members)))))))
object_of Two before bin_prices bins draining item_prices pairs reach =
    object (member (codes "before") before
    (member (codes "bin_prices") bin_prices
    (member (codes "bins") bins
    (member (codes "draining") draining
    (member (codes "item_prices") item_prices
    (member (codes "pairs") pairs
    (member (codes "reach") reach
    (member (codes "version") (number_data 2) no_members))))))))

-- where items share their lists of bins or not
abbrev pub data_by : Bool → Problem → List (ℕ × ℕ) → List ℕ → List ℕ → Data
data_by shares p pairs item_prices bin_prices =
    object_of p.version (list_data pair_data (pairs_from 0 p.before)) (list_data number_data bin_prices) (list_data number_data p.limits)
    (list_data number_data (marked_from 0 p.draining)) (list_data number_data item_prices) (list_data pair_data pairs) (reach_data shares p)

abbrev pub document_data : Problem → List (ℕ × ℕ) → List ℕ → List ℕ → Data
document_data p pairs item_prices bin_prices = data_by false p pairs item_prices bin_prices

abbrev pub shared_document_data : Problem → List (ℕ × ℕ) → List ℕ → List ℕ → Data
shared_document_data p pairs item_prices bin_prices = data_by true p pairs item_prices bin_prices
