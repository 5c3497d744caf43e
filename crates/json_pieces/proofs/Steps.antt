-- One more item of an array, and one more member of an object.
use Rattle.std.proofs.Common.{◌≡◌, ◌≤◌, ℕ, Bool, true, false, List, [], ◌∷◌, ◌++◌, Some, IsUtf8, fold, option_map, refl, sym, ap, ap₂, ◌∙◌, arith, append_assoc, append-nil}
use Rattle.std.specs.Prelude.{option_and_then}
use Rattle.std.proofs.lemmas.List.Sums.{fold-append}
use Rattle.std.proofs.lemmas.Str.{IsUtf8-append, IsUtf8-nil}
use Rattle.json.specs.Json as json
use Rattle.json.specs.Token.{Token, key}
use Rattle.json.specs.Print.{print, print_from, token_text, ends}
use Rattle.json.specs.Tree as tree
use Rattle.json.proofs.Printed.Tokens.{print_from-append}
use Rattle.json.proofs.Printed.Utf8.{IsUtf8-are_ascii}
use Rattle.serde_json.specs.Data.{Data, Items, no_items, item, Members, no_members, member, array, object, items_depth, members_depth}
use Rattle.serde_json.specs.Read.{of_items, of_members}
use Rattle.serde_json.specs.Written.{blank_items, blank_members, items_outline, members_outline, comma_if}
use Rattle.json_pieces.specs.Texts.{WritesValue}

-- the text is that of the items that are left, with the closing bracket
pub record WritesItems (later : Bool) (ds : Items) (text : List ℕ) : Type 0 where
  pub written : json.Items
  pub printed : text ≡ print_from later (tree.items_tokens written)
  pub utf8 : IsUtf8 text
  pub numbers : tree.ItemsHaveNumbers written
  pub reads : of_items written ≡ Some ds
  pub levels : tree.items_depth written ≤ items_depth ds
  pub outlined : blank_items written ≡ items_outline ds

-- the text is that of these members, which are those that are left, with the closing bracket
pub record WritesMembers (later : Bool) (written : json.Members) (ds : Members) (text : List ℕ) : Type 0 where
  pub printed : text ≡ print_from later (tree.members_tokens written)
  pub utf8 : IsUtf8 text
  pub numbers : tree.MembersHaveNumbers written
  pub levels : tree.members_depth written ≤ members_depth ds
  pub outlined : blank_members written ≡ members_outline ds

-- ---- what is printed behind a value, and for one

mutual
  value_ends : (after : Bool) (j : json.Json) → fold (λ _ u. ends u) after (tree.json_tokens j) ≡ true
  value_ends after json.null = refl
  value_ends after (json.boolean b) = refl
  value_ends after (json.number s) = refl
  value_ends after (json.string s) = refl
  value_ends after (json.array js) = items_end false js
  value_ends after (json.object ms) = members_end false ms

  items_end : (after : Bool) (js : json.Items) → fold (λ _ u. ends u) after (tree.items_tokens js) ≡ true
  items_end after json.no_items = refl
  items_end after (json.item j js) = fold-append _ after (tree.json_tokens j) (tree.items_tokens js) ∙ items_end _ js

  members_end : (after : Bool) (ms : json.Members) → fold (λ _ u. ends u) after (tree.members_tokens ms) ≡ true
  members_end after json.no_members = refl
  members_end after (json.member k j ms) = fold-append _ false (tree.json_tokens j) (tree.members_tokens ms) ∙ members_end _ ms

behind_value : (after : Bool) (j : json.Json) (ts : List Token) → print_from after (tree.json_tokens j ++ ts) ≡ print_from after (tree.json_tokens j) ++ print_from true ts
behind_value after j ts = print_from-append after (tree.json_tokens j) ts ∙ ap (λ (b : Bool). print_from after (tree.json_tokens j) ++ print_from b ts) (value_ends after j)

begins_value : (later : Bool) (j : json.Json) → print_from later (tree.json_tokens j) ≡ comma_if later ++ print (tree.json_tokens j)
unfolding print_from
begins_value true json.null = refl
begins_value true (json.boolean b) = refl
begins_value true (json.number s) = refl
begins_value true (json.string s) = refl
begins_value true (json.array js) = refl
begins_value true (json.object ms) = refl
begins_value false j = refl

comma_utf8 : (later : Bool) → IsUtf8 (comma_if later)
comma_utf8 true = IsUtf8-are_ascii (44 ∷ []) refl
comma_utf8 false = IsUtf8-nil

-- what follows a piece, and what was written before it
pub behind : (before apart text rest : List ℕ) → before ++ (apart ++ (text ++ rest)) ≡ (before ++ (apart ++ text)) ++ rest
behind before apart text rest = ap (λ t. before ++ t) (sym (append_assoc apart text rest)) ∙ sym (append_assoc before (apart ++ text) rest)

-- ---- items

pub next_item : (later : Bool) (d : Data) (ds : Items) (text rest : List ℕ) → WritesValue d text → WritesItems true ds rest → WritesItems later (item d ds) (comma_if later ++ (text ++ rest))
next_item later d ds text rest w r =
    let tokens = tree.json_tokens w.written in
    record {
      written = json.item w.written r.written;
      printed =
          sym (behind_value later w.written (tree.items_tokens r.written) ∙ ap (λ t. t ++ print_from true (tree.items_tokens r.written)) (begins_value later w.written) ∙ append_assoc (comma_if later) (print tokens) _
          ∙ ap₂ (λ (a b : List ℕ). comma_if later ++ (a ++ b)) (sym w.printed) (sym r.printed));
      utf8 = IsUtf8-append _ _ (comma_utf8 later) (IsUtf8-append _ _ w.utf8 r.utf8);
      numbers = (w.numbers, r.numbers);
      reads = ap (option_and_then (λ e. option_map (item e) (of_items r.written))) w.reads ∙ ap (option_map (item d)) r.reads;
      levels = omega (arith, w.levels, r.levels);
      outlined = ap₂ json.item w.outlined r.outlined;
    }

pub no_item : (later : Bool) → WritesItems later no_items (93 ∷ [])
unfolding print_from
no_item true = record { written = json.no_items; printed = refl; utf8 = IsUtf8-are_ascii (93 ∷ []) refl; numbers = tt; reads = refl; levels = omega arith; outlined = refl }
no_item false = record { written = json.no_items; printed = refl; utf8 = IsUtf8-are_ascii (93 ∷ []) refl; numbers = tt; reads = refl; levels = omega arith; outlined = refl }

pub whole_array : (ds : Items) (rest : List ℕ) → WritesItems false ds rest → WritesValue (array ds) (91 ∷ rest)
unfolding print_from
whole_array ds rest r =
    record {
      written = json.array r.written;
      printed = ap (λ t. 91 ∷ t) r.printed;
      utf8 = IsUtf8-append (91 ∷ []) rest (IsUtf8-are_ascii (91 ∷ []) refl) r.utf8;
      numbers = r.numbers;
      reads = ap (option_map array) r.reads;
      levels = omega (arith, r.levels);
      outlined = ap json.array r.outlined;
    }

-- ---- members

-- the text of a name alone
pub name_alone : (k : List ℕ) → print (key k ∷ []) ≡ token_text (key k)
unfolding print_from
name_alone k = append-nil (token_text (key k))

named : (later : Bool) (k : List ℕ) (ts : List Token) → print_from later (key k ∷ ts) ≡ (comma_if later ++ token_text (key k)) ++ print_from false ts
unfolding print_from
named true k ts = refl
named false k ts = refl

pub next_member : (later : Bool) (k : List ℕ) (d : Data) (ms : json.Members) (ds : Members) (text rest : List ℕ) → IsUtf8 (token_text (key k)) → (w : WritesValue d text) → WritesMembers true ms ds rest
    → WritesMembers later (json.member k w.written ms) (member k d ds) ((comma_if later ++ token_text (key k)) ++ (text ++ rest))
next_member later k d ms ds text rest utf8 w r =
    let tokens = tree.json_tokens w.written in
    record {
      printed =
          sym (named later k (tokens ++ tree.members_tokens ms)
          ∙ ap (λ t. (comma_if later ++ token_text (key k)) ++ t) (behind_value false w.written (tree.members_tokens ms) ∙ ap₂ (λ (a b : List ℕ). a ++ b) (sym w.printed) (sym r.printed)));
      utf8 = IsUtf8-append _ _ (IsUtf8-append _ _ (comma_utf8 later) utf8) (IsUtf8-append _ _ w.utf8 r.utf8);
      numbers = (w.numbers, r.numbers);
      levels = omega (arith, w.levels, r.levels);
      outlined = ap₂ (json.member k) w.outlined r.outlined;
    }

pub no_member : (later : Bool) → WritesMembers later json.no_members no_members (125 ∷ [])
unfolding print_from
no_member true = record { printed = refl; utf8 = IsUtf8-are_ascii (125 ∷ []) refl; numbers = tt; levels = omega arith; outlined = refl }
no_member false = record { printed = refl; utf8 = IsUtf8-are_ascii (125 ∷ []) refl; numbers = tt; levels = omega arith; outlined = refl }

pub whole_object : (ms : json.Members) (ds : Members) (rest : List ℕ) → WritesMembers false ms ds rest → of_members ms no_members ≡ Some ds → WritesValue (object ds) (123 ∷ rest)
unfolding print_from
whole_object ms ds rest r reads =
    record {
      written = json.object ms;
      printed = ap (λ t. 123 ∷ t) r.printed;
      utf8 = IsUtf8-append (123 ∷ []) rest (IsUtf8-are_ascii (123 ∷ []) refl) r.utf8;
      numbers = r.numbers;
      reads = ap (option_map object) reads;
      levels = omega (arith, r.levels);
      outlined = ap json.object r.outlined;
    }
