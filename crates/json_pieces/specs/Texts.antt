-- The text of a value.
use Rattle.std.specs.Prelude.{◌≡◌, ◌≤◌, ℕ, List, IsUtf8, false, Some}
use Rattle.std.specs.List.{list_any}
use Rattle.json.specs.Json as json
use Rattle.json.specs.Lex.{tokens}
use Rattle.json.specs.Print.{print}
use Rattle.json.specs.Tree as tree
use Rattle.serde_json.specs.Data.{Data, depth}
use Rattle.serde_json.specs.Read.{max_depth, of_json}
use Rattle.serde_json.specs.Written.{IsInOrder, blank, compact_text, has_float, outline}
use Rattle.json_values.specs.Texts.{is_line_feed, json_of}

-- The text stands in one line and has no space between its tokens. It is read as the value again unless more than 127 containers nest.
-- A value that has no float has one such text; of a float the text is not named, but it reads back.
pub record IsTextOf (d : Data) (text : List ℕ) : Type 0 where
  pub form : has_float d ≡ false → text ≡ compact_text d
  pub one_line : list_any is_line_feed text ≡ false
  pub compact : text ≡ print (tokens text)
  pub order : IsInOrder text d
  pub reads_back : depth d ≤ max_depth → json_of text ≡ Some d

-- ---- for private clauses: the text is that of some JSON that reads as the data

pub record WritesValue (d : Data) (text : List ℕ) : Type 0 where
  pub written : json.Json
  pub printed : text ≡ print (tree.json_tokens written)
  pub utf8 : IsUtf8 text
  pub numbers : tree.HasNumbers written
  pub reads : of_json written ≡ Some d
  pub levels : tree.depth written ≤ depth d
  pub outlined : blank written ≡ outline d
