-- The marks as JSON values, one after the other.
use Rattle.std.proofs.Common.{◌≡◌, ℕ, ◌||◌, Bool, true, false, List, [], ◌∷◌, ◌++◌, refl, ap}
use Rattle.serde_json.specs.Data.{Items, no_items, item, array}
use Rattle.serde_json.specs.Written.{has_float}
use Rattle.serde_json.specs.View.{view, items_view}
use Rattle.serde_json.specs.declared.value.Value.{Value}
use Rattle.agent_core.specs.declared.target.Series.{Series}
use Rattle.agent_core.specs.Told.{Told}
use Rattle.json_values.specs.Spelling.{list_data, number_data}
use Rattle.agent_documents.specs.States.{marks_data, state_data}

-- these items, and those behind them
abbrev pub joined : Items → Items → Items
joined no_items rest = rest
joined (item d ds) rest = item d (joined ds rest)

pub joined_more : (vs : List Value) (v : Value) (rest : Items) → joined (items_view (vs ++ v ∷ [])) rest ≡ joined (items_view vs) (item (view v) rest)
joined_more [] v rest = refl
joined_more (w ∷ vs) v rest = ap (item (view w)) (joined_more vs v rest)

pub joined_all : (ds : Items) → joined ds no_items ≡ ds
joined_all no_items = refl
joined_all (item d ds) = ap (item d) (joined_all ds)

-- ---- no float is written

or_no : (a b : Bool) → a ≡ false → b ≡ false → (a || b) ≡ false
or_no true b e f = absurd (cc e)
or_no false b e f = f

marks_no_float : (marks : List (Series × ℕ)) → has_float (array (marks_data marks)) ≡ false
marks_no_float [] = refl
marks_no_float (mark ∷ marks) = marks_no_float marks

targets_no_float : (targets : List ℕ) → has_float (list_data number_data targets) ≡ false
targets_no_float [] = refl
targets_no_float (target ∷ targets) = targets_no_float targets

pub state_no_float : (told : Told) → has_float (state_data told) ≡ false
state_no_float told = or_no _ _ (marks_no_float told.marks) (or_no _ _ (targets_no_float told.targets) refl)
