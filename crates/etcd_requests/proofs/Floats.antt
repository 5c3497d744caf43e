-- No request has a float, so each body is the one compact text of its value.
use Rattle.std.proofs.Common.{◌≡◌, ℕ, ◌||◌, Bool, true, false, List, [], ◌∷◌, IfOk, refl, sym, ap, ◌∙◌}
use Rattle.std.specs.Prelude.{Result}
use Rattle.std.proofs.lemmas.Result.{IfOk-weaker}
use Rattle.serde_json.specs.Data.{Data}
use Rattle.serde_json.specs.Written.{compact_text, has_float, items_have_float}
use Rattle.json_values.specs.Spelling.{items_data}
use Rattle.etcd_requests.specs.Texts.{compare_data, operation_data, transaction_data}
use Rattle.etcd_requests.specs.Transactions.{Compare, HasValue, WasCreated, Operation, Put, PutUnder, Get, GetKey, GetFrom, RemoveFrom, Transaction}

or_no : (a b : Bool) → a ≡ false → b ≡ false → (a || b) ≡ false
or_no true b e f = absurd (cc e)
or_no false b e f = f

compare_no_float : (prefix : List ℕ) (compare : Compare) → has_float (compare_data prefix compare) ≡ false
compare_no_float prefix (HasValue key value) = refl
compare_no_float prefix (WasCreated key revision) = refl

operation_no_float : (prefix : List ℕ) (operation : Operation) → has_float (operation_data prefix operation) ≡ false
operation_no_float prefix (Put key value) = refl
operation_no_float prefix (PutUnder key value lease) = refl
operation_no_float prefix (Get key) = refl
operation_no_float prefix (GetKey key) = refl
operation_no_float prefix (GetFrom epoch number most) = refl
operation_no_float prefix (RemoveFrom epoch number) = refl

items_no_float : {A : Type 0} (data_of : A → Data) (none : (x : A) → has_float (data_of x) ≡ false) (xs : List A) → items_have_float (items_data data_of xs) ≡ false
items_no_float data_of none [] = refl
items_no_float data_of none (x ∷ xs) = or_no _ _ (none x) (items_no_float data_of none xs)

parts_no_float : (prefix : List ℕ) (compares : List Compare) (success failure : List Operation) → has_float (transaction_data prefix (record { compares = compares; success = success; failure = failure })) ≡ false
parts_no_float prefix [] success failure = or_no _ _ (items_no_float (operation_data prefix) (operation_no_float prefix) success) refl
parts_no_float prefix (c ∷ cs) success failure =
    or_no _ _ (or_no _ _ (compare_no_float prefix c) (items_no_float (compare_data prefix) (compare_no_float prefix) cs))
    (or_no _ _ (items_no_float (operation_data prefix) (operation_no_float prefix) failure)
    (or_no _ _ (items_no_float (operation_data prefix) (operation_no_float prefix) success) refl))

pub transaction_no_float : (prefix : List ℕ) (t : Transaction) → has_float (transaction_data prefix t) ≡ false
transaction_no_float prefix t = parts_no_float prefix t.compares t.success t.failure

-- the text of a value that is this one, and has no float
pub text_is : {E : Type 0} (written : Result (List ℕ) E) (value all : Data) → value ≡ all → has_float all ≡ false → IfOk written (λ (t : List ℕ). has_float value ≡ false → t ≡ compact_text value) → IfOk written (λ (t : List ℕ). t ≡ compact_text all)
text_is written value all is none form =
    IfOk-weaker written (λ (t : List ℕ). has_float value ≡ false → t ≡ compact_text value) (λ (t : List ℕ). t ≡ compact_text all)
    (λ t f. f (ap has_float is ∙ none) ∙ ap compact_text is) form
