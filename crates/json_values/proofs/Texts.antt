-- The value that bytes say, by whether they are UTF-8.
use Rattle.std.proofs.Common.{◌≡◌, ◌≤◌, ℕ, suc, List, [], ◌++◌, Bool, true, false, Option, Some, None, option_and_then, cond, refl, sym, ap, ap₂, ◌∙◌, append-nil, arith, max, IsUtf8}
use Rattle.std.specs.Str.{is_utf8}
use Rattle.std.proofs.lemmas.Str.{IsUtf8-from_is_utf8, is_utf8-from_IsUtf8}
use Rattle.json.specs.Json.{Json, if_last, value}
use Rattle.json.specs.Lex.{tokens}
use Rattle.json.specs.Print.{print}
use Rattle.json.specs.Token.{Token}
use Rattle.json.specs.Tree as tree
use Rattle.json.proofs.Printed.Trees.{value-json_tokens}
use Rattle.serde_json.specs.Data.{Data, null, boolean, number, string, array, object, Items, no_items, item, Members, no_members, member, depth, items_depth, members_depth}
use Rattle.serde_json.specs.Read.{of_json, max_depth, read}
use Rattle.serde_json.specs.Written.{compact_text, outline, items_outline, members_outline}
use Rattle.serde_json.proofs.Texts.{print-outline}
use Rattle.json_values.specs.Texts.{ReadsTokens, json_of, tokens_of}

pub json_of-text : (bytes : List ℕ) (d : Data) → IsUtf8 bytes → read bytes ≡ Some d → json_of bytes ≡ Some d
unfolding json_of
json_of-text bytes d utf8 says = ap (λ (b : Bool). cond b (read bytes) None) (is_utf8-from_IsUtf8 bytes utf8) ∙ says

none_by : (b : Bool) (o : Option Data) → (b ≡ true → o ≡ None) → cond b o None ≡ None
none_by true o h = h refl
none_by false o h = refl

pub json_of-none : (bytes : List ℕ) → (IsUtf8 bytes → read bytes ≡ None) → json_of bytes ≡ None
unfolding json_of
json_of-none bytes h = none_by (is_utf8 bytes) (read bytes) (λ e. h (IsUtf8-from_is_utf8 bytes e))

-- ---- what was written token by token, behind none

pub printed : (none written : List Token) (d : Data) → none ≡ [] → written ≡ none ++ tokens_of d → print written ≡ compact_text d
printed none written d empty same = ap print (same ∙ ap (λ (ts : List Token). ts ++ tokens_of d) empty) ∙ print-outline d

mutual
  levels_same : (d : Data) → tree.depth (outline d) ≡ depth d
  levels_same null = refl
  levels_same (boolean b) = refl
  levels_same (number n) = refl
  levels_same (string s) = refl
  levels_same (array ds) = ap suc (items_same ds)
  levels_same (object ms) = ap suc (members_same ms)

  items_same : (ds : Items) → tree.items_depth (items_outline ds) ≡ items_depth ds
  items_same no_items = refl
  items_same (item d ds) = ap₂ max (levels_same d) (items_same ds)

  members_same : (ms : Members) → tree.members_depth (members_outline ms) ≡ members_depth ms
  members_same no_members = refl
  members_same (member k d ms) = ap₂ max (levels_same d) (members_same ms)

-- what a text comes to whose tokens were read as JSON
whole : Option (Json × List Token) → Option Data
whole o = option_and_then of_json (option_and_then (λ (p : Json × List Token). if_last p.0 p.1) o)

pub said_by_tokens :
    (none written : List Token) (d : Data) → none ≡ [] → written ≡ none ++ tokens_of d → tokens (print written) ≡ written → IsUtf8 (print written) → ReadsTokens d → depth d ≤ max_depth
    → json_of (print written) ≡ Some d
unfolding whole
said_by_tokens none written d empty same reads utf8 says shallow =
    let all : tokens (print written) ≡ tokens_of d ++ [] = reads ∙ same ∙ ap (λ (ts : List Token). ts ++ tokens_of d) empty ∙ sym (append-nil (tokens_of d)) in
    json_of-text (print written) d utf8 (ap (λ (ts : List Token). whole (value max_depth ts)) all ∙ ap whole (value-json_tokens (outline d) max_depth [] (omega (arith, shallow, levels_same d))) ∙ says)
