-- What a list of JSON values spells, value by value.
use Rattle.std.proofs.Common.{◌≡◌, ℕ, ◌+◌, ◌<◌, ◌≤◌, false, List, [], ◌∷◌, ◌++◌, length, get_or, take, Option, Some, None, option_map, option_and_then, refl, sym, ap, ◌∙◌, arith}
use Rattle.std.proofs.lemmas.List.{take_more}
use Rattle.std.proofs.Math.Nat.{max-le}
use Rattle.std.proofs.lemmas.Bool.{or_from}
use Rattle.serde_json.specs.Data.{Data, Items, no_items, item, depth, items_depth}
use Rattle.serde_json.specs.Written.{has_float}
use Rattle.serde_json.specs.View.{view, items_view}
use Rattle.serde_json.specs.declared.value.Value.{Value}
use Rattle.json_values.specs.Spelling.{pair_from, all_in, items_data, list_data}

pub pair_from-short : (xs vs : List Value) → xs ≡ vs → length xs < 2 → None ≡ pair_from (items_view vs)
pair_from-short xs [] e h = refl
pair_from-short xs (v ∷ []) e h = refl
pair_from-short xs (v ∷ w ∷ vs) e h = absurd (omega (arith, ap length e))

pub pair_from-long : (xs vs : List Value) → xs ≡ vs → 3 ≤ length xs → None ≡ pair_from (items_view vs)
pair_from-long xs [] e h = absurd (omega (arith, ap length e))
pair_from-long xs (v ∷ []) e h = absurd (omega (arith, ap length e))
pair_from-long xs (v ∷ w ∷ []) e h = absurd (omega (arith, ap length e))
pair_from-long xs (v ∷ w ∷ u ∷ vs) e h = refl

-- ---- one more item

push_item : Items → Data → Items
push_item no_items e = item e no_items
push_item (item d ds) e = item d (push_item ds e)

items_view-push : (vs : List Value) (v : Value) → items_view (vs ++ v ∷ []) ≡ push_item (items_view vs) (view v)
unfolding push_item
items_view-push [] v = refl
items_view-push (w ∷ vs) v = ap (item (view w)) (items_view-push vs v)

items_data-push : {A : Type 0} (data_of : A → Data) (xs : List A) (x : A) → items_data data_of (xs ++ x ∷ []) ≡ push_item (items_data data_of xs) (data_of x)
unfolding push_item
items_data-push data_of [] x = refl
items_data-push data_of (y ∷ xs) x = ap (item (data_of y)) (items_data-push data_of xs x)

all_in_step : {A : Type 0} (o : Option A) (r s : Option (List A)) (xs : List A) (x : A) → option_and_then (λ y. option_map (λ ys. y ∷ ys) r) o ≡ Some xs → ((ys : List A) → r ≡ Some ys → s ≡ Some (ys ++ x ∷ [])) → option_and_then (λ y. option_map (λ ys. y ∷ ys) s) o ≡ Some (xs ++ x ∷ [])
all_in_step None r s xs x h more = cc
all_in_step (Some y) None s xs x h more = cc
all_in_step (Some y) (Some ys) s xs x h more =
    let same : y ∷ ys ≡ xs = cc in
    ap (option_map (λ zs. y ∷ zs)) (more ys refl) ∙ ap (λ zs. Some (zs ++ x ∷ [])) same

all_in-push : {A : Type 0} (what : Data → Option A) (ds : Items) (d : Data) (xs : List A) (x : A) → all_in what ds ≡ Some xs → what d ≡ Some x → all_in what (push_item ds d) ≡ Some (xs ++ x ∷ [])
unfolding push_item
all_in-push what no_items d xs x all here =
    let same : xs ≡ [] = cc in
    ap (option_and_then (λ y. Some (y ∷ []))) here ∙ ap (λ zs. Some (zs ++ x ∷ [])) (sym same)
all_in-push what (item e ds) d xs x all here = all_in_step (what e) (all_in what ds) (all_in what (push_item ds d)) xs x all (λ ys more. all_in-push what ds d ys x more here)

-- the items up to the next one, as a loop over them meets them
take_next : {A : Type 0} (xs : List A) (i : ℕ) (x : A) → i < length xs → x ≡ get_or xs i x → take (i + 1) xs ≡ take i xs ++ x ∷ []
take_next xs i x l e = take_more xs i x l ∙ ap (λ y. take i xs ++ y ∷ []) (sym e)

pub items_data_more : {A : Type 0} (data_of : A → Data) (xs : List A) (i : ℕ) (x : A) (vs next : List Value) (v : Value) → i < length xs → x ≡ get_or xs i x → next ≡ vs ++ v ∷ [] → view v ≡ data_of x → items_view vs ≡ items_data data_of (take i xs) → items_view next ≡ items_data data_of (take (i + 1) xs)
items_data_more data_of xs i x vs next v l e n here done =
    ap items_view n ∙ items_view-push vs v ∙ ap (push_item (items_view vs)) here ∙ ap (λ ds. push_item ds (data_of x)) done ∙ sym (items_data-push data_of (take i xs) x) ∙ ap (items_data data_of) (sym (take_next xs i x l e))

pub all_in_more : {A : Type 0} (what : Data → Option A) (xs : List A) (i : ℕ) (x : A) (vs next : List Value) (v : Value) → i < length xs → x ≡ get_or xs i x → next ≡ vs ++ v ∷ [] → what (view v) ≡ Some x → all_in what (items_view vs) ≡ Some (take i xs) → all_in what (items_view next) ≡ Some (take (i + 1) xs)
all_in_more what xs i x vs next v l e n here done =
    ap (all_in what) (ap items_view n ∙ items_view-push vs v) ∙ all_in-push what (items_view vs) (view v) (take i xs) x done here ∙ ap Some (sym (take_next xs i x l e))

-- ---- a list is as its items are: without a float, and of few levels

pub no_float : {A : Type 0} (data_of : A → Data) → ((x : A) → has_float (data_of x) ≡ false) → (xs : List A) → has_float (list_data data_of xs) ≡ false
no_float data_of each [] = refl
no_float data_of each (x ∷ xs) = or_from _ _ (each x) (no_float data_of each xs)

pub levels : {A : Type 0} (data_of : A → Data) (n : ℕ) → ((x : A) → depth (data_of x) ≤ n) → (xs : List A) → items_depth (items_data data_of xs) ≤ n
levels data_of n each [] = omega arith
levels data_of n each (x ∷ xs) = max-le (each x) (levels data_of n each xs)
