-- The reports as JSON values, one after the other.
use Rattle.std.proofs.Common.{◌≡◌, ℕ, ◌+◌, ◌<◌, ◌||◌, Bool, true, false, List, [], ◌∷◌, ◌++◌, length, get_or, take, refl, sym, ap, ◌∙◌}
use Rattle.std.proofs.lemmas.List.{take_more}
use Rattle.serde_json.specs.Data.{Data, Items, no_items, item}
use Rattle.serde_json.specs.Written.{has_float}
use Rattle.serde_json.specs.View.{view, items_view}
use Rattle.serde_json.specs.declared.value.Value.{Value}
use Rattle.json_values.specs.Spelling.{items_data, list_data}
use Rattle.scrape_books.specs.declared.report.Outcome.{Outcome}
use Rattle.scrape_books.specs.declared.report.Outcome.TheVariants.{Up, Down}
use Rattle.agent_core.specs.declared.report.Head.{Head}
use Rattle.agent_core.specs.declared.report.Report.{Report}
use Rattle.agent_exchanges.specs.Reports.{entry_data, outcome_data, reports_data}

push_item : Items → Data → Items
push_item no_items e = item e no_items
push_item (item d ds) e = item d (push_item ds e)

items_view-push : (vs : List Value) (v : Value) → items_view (vs ++ v ∷ []) ≡ push_item (items_view vs) (view v)
unfolding push_item
items_view-push [] v = refl
items_view-push (w ∷ vs) v = ap (item (view w)) (items_view-push vs v)

items_data-push : (xs : List Report) (x : Report) → items_data entry_data (xs ++ x ∷ []) ≡ push_item (items_data entry_data xs) (entry_data x)
unfolding push_item
items_data-push [] x = refl
items_data-push (y ∷ xs) x = ap (item (entry_data y)) (items_data-push xs x)

-- the reports up to the next one, as a loop over them meets them
take_next : (xs : List Report) (i : ℕ) (x : Report) → i < length xs → x ≡ get_or xs i x → take (i + 1) xs ≡ take i xs ++ x ∷ []
take_next xs i x l e = take_more xs i x l ∙ ap (λ (y : Report). take i xs ++ y ∷ []) (sym e)

pub entries_more : (xs : List Report) (i : ℕ) (x : Report) (vs next : List Value) (v : Value) → i < length xs → x ≡ get_or xs i x → next ≡ vs ++ v ∷ [] → view v ≡ entry_data x → items_view vs ≡ items_data entry_data (take i xs)
    → items_view next ≡ items_data entry_data (take (i + 1) xs)
entries_more xs i x vs next v l e n here done =
    ap items_view n ∙ items_view-push vs v ∙ ap (push_item (items_view vs)) here ∙ ap (λ (ds : Items). push_item ds (entry_data x)) done ∙ sym (items_data-push (take i xs) x) ∙ ap (items_data entry_data) (sym (take_next xs i x l e))

-- ---- no float is written

or_no : (a b : Bool) → a ≡ false → b ≡ false → (a || b) ≡ false
or_no true b e f = absurd (cc e)
or_no false b e f = f

outcome_no_float : (target : ℕ) (outcome : Outcome) → has_float (outcome_data target outcome) ≡ false
outcome_no_float target (Up samples) = refl
outcome_no_float target Down = refl

entries_no_float : (reports : List Report) → has_float (list_data entry_data reports) ≡ false
entries_no_float [] = refl
entries_no_float (report ∷ reports) = or_no _ _ (outcome_no_float report.target report.outcome) (entries_no_float reports)

pub reports_no_float : (head : Head) (reports : List Report) → has_float (reports_data head reports) ≡ false
reports_no_float head reports = or_no _ _ (entries_no_float reports) refl
