-- Label sets: finite maps from label names to non-empty texts, each as the list of its names and texts
-- in byte order of the names. A missing name has the empty text.
use Rattle.std.specs.Prelude.{◌≡◌, ◌<◌, length, slice_index_or, ℕ, List, [], ◌∷◌, Bool, true, false, not, map, filter, unwrap_or, IsTrue}
use Rattle.std.specs.Ordering.{nat_cmp, eq_by_cmp}
use Rattle.std.specs.declared.cmp.Ordering.{Ordering}
use Rattle.std.specs.declared.cmp.Ordering.TheVariants.{Less}
use Rattle.std.specs.Cmp.Lexicographic.{slice_cmp}
use Rattle.std.specs.List.{list_all}
use Rattle.std.specs.FinMap.{find, put, is_sorted}
use Rattle.label_sets.specs.Name.{is_label_name}

-- the names and texts of a set
abbrev pub LabelList : Type 0
LabelList = List (List ℕ × List ℕ)

-- byte order
abbrev pub byte_cmp : List ℕ → List ℕ → Ordering
byte_cmp = slice_cmp nat_cmp

-- the text of a name
abbrev pub label_text : LabelList → List ℕ → List ℕ
label_text labels name = unwrap_or (find byte_cmp name labels) []

-- the set without a name
abbrev pub without : LabelList → List ℕ → LabelList
without labels name = filter (λ l. not (eq_by_cmp byte_cmp name l.0)) labels

-- the set where a name has a text. A name of the empty text is missing
abbrev pub with_label : LabelList → List ℕ → List ℕ → LabelList
with_label labels name [] = without labels name
with_label labels name (b ∷ bs) = put byte_cmp name (b ∷ bs) labels

-- the names, in byte order
abbrev pub names_of : LabelList → List (List ℕ)
names_of labels = map (λ l. l.0) labels

-- each is below those behind it, so none comes twice
abbrev pub IsAscending : List (List ℕ) → Type 0
IsAscending names = (i j : ℕ) (d : List ℕ) → i < j → j < length names → byte_cmp (slice_index_or names i d) (slice_index_or names j d) ≡ Less

abbrev pub is_some_text : List ℕ → Bool
is_some_text [] = false
is_some_text (b ∷ bs) = true

-- the list is one of a set: each name once and in order, each a label name, and no empty text
pub record IsLabelSet (labels : LabelList) : Type 0 where
  pub ordered : IsTrue (is_sorted byte_cmp labels)
  pub named : IsTrue (list_all (λ l. is_label_name l.0) labels)
  pub filled : IsTrue (list_all (λ l. is_some_text l.1) labels)
