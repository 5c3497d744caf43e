-- What JSON values spell: whole numbers, texts, pairs of numbers, lists, and members of objects.
use Rattle.std.specs.Prelude.{◌^◌, ℕ, List, [], ◌∷◌, Option, Some, None, option_map, option_and_then, nat_lt, if◌then◌else◌}
use Rattle.serde_json.specs.Data.{Data, number, array, unsigned, Items, no_items, item}
use Rattle.serde_json.specs.Find.{get, as_number, as_u64, as_array}

-- a number of at most 32 bits
abbrev pub of_32_bits : ℕ → Option ℕ
of_32_bits n = if nat_lt n (2 ^ 32) then Some n else None

-- A whole number: no fraction, no exponent, no minus sign.
abbrev pub number_in : Data → Option ℕ
number_in d = option_and_then of_32_bits (option_and_then as_u64 (as_number d))

-- two whole numbers and nothing more
abbrev pub pair_from : Items → Option (ℕ × ℕ)
pair_from no_items = None
pair_from (item d no_items) = None
pair_from (item d (item e no_items)) = option_and_then (λ x. option_map (λ y. (x, y)) (number_in e)) (number_in d)
pair_from (item d (item e (item f ds))) = None

abbrev pub pair_in : Data → Option (ℕ × ℕ)
pair_in d = option_and_then pair_from (as_array d)

-- what all of the items are, or nothing where one of them is no such thing
abbrev pub all_in : {A : Type 0} → (Data → Option A) → Items → Option (List A)
all_in what no_items = Some []
all_in what (item d ds) = option_and_then (λ x. option_map (λ xs. x ∷ xs) (all_in what ds)) (what d)

abbrev pub list_in : {A : Type 0} → (Data → Option A) → Data → Option (List A)
list_in what d = option_and_then (all_in what) (as_array d)

-- what the member of this name is
abbrev pub member_in : {A : Type 0} → (Data → Option A) → List ℕ → Data → Option A
member_in what name d = option_and_then what (get name d)

-- ---- and the one form in which each is written

abbrev pub number_data : ℕ → Data
number_data n = number (unsigned n)

abbrev pub pair_data : ℕ × ℕ → Data
pair_data q = array (item (number_data q.0) (item (number_data q.1) no_items))

abbrev pub items_data : {A : Type 0} → (A → Data) → List A → Items
items_data data_of [] = no_items
items_data data_of (x ∷ xs) = item (data_of x) (items_data data_of xs)

abbrev pub list_data : {A : Type 0} → (A → Data) → List A → Data
list_data data_of xs = array (items_data data_of xs)
