-- A text that was written for a value at once.
use Rattle.std.proofs.Common.{◌≡◌, ◌≤◌, ℕ, suc, max, List, [], Some, IsUtf8, refl, sym, ap, ap₂, ◌∙◌, subst, arith, append-nil}
use Rattle.json.specs.Json as json
use Rattle.json.specs.Lex.{tokens}
use Rattle.json.specs.Print.{print, ArePrintableOrBad}
use Rattle.json.specs.Tree as tree
use Rattle.json.proofs.Numbered.{ArePrintableOrBad-tokens, value-HasNumbers}
use Rattle.json.proofs.Printed.Trees.{value-json_tokens}
use Rattle.serde_json.specs.Data.{Data, null, boolean, number, string, array, object, Items, no_items, item, Members, no_members, member, depth, items_depth, members_depth}
use Rattle.serde_json.specs.Read.{max_depth, read}
use Rattle.serde_json.specs.Written.{IsInOrder, blank, blank_items, blank_members, outline, items_outline, members_outline}
use Rattle.json_pieces.specs.Texts.{WritesValue}
use Rattle.json_pieces.proofs.Said.{reads_as}

mutual
  blank_levels : (j : json.Json) → tree.depth (blank j) ≡ tree.depth j
  blank_levels json.null = refl
  blank_levels (json.boolean b) = refl
  blank_levels (json.number s) = refl
  blank_levels (json.string s) = refl
  blank_levels (json.array js) = ap suc (blank_items_levels js)
  blank_levels (json.object ms) = ap suc (blank_members_levels ms)

  blank_items_levels : (js : json.Items) → tree.items_depth (blank_items js) ≡ tree.items_depth js
  blank_items_levels json.no_items = refl
  blank_items_levels (json.item j js) = ap₂ max (blank_levels j) (blank_items_levels js)

  blank_members_levels : (ms : json.Members) → tree.members_depth (blank_members ms) ≡ tree.members_depth ms
  blank_members_levels json.no_members = refl
  blank_members_levels (json.member k j ms) = ap₂ max (blank_levels j) (blank_members_levels ms)

mutual
  outline_levels : (d : Data) → tree.depth (outline d) ≡ depth d
  outline_levels null = refl
  outline_levels (boolean b) = refl
  outline_levels (number n) = refl
  outline_levels (string s) = refl
  outline_levels (array ds) = ap suc (items_outline_levels ds)
  outline_levels (object ms) = ap suc (members_outline_levels ms)

  items_outline_levels : (ds : Items) → tree.items_depth (items_outline ds) ≡ items_depth ds
  items_outline_levels no_items = refl
  items_outline_levels (item d ds) = ap₂ max (outline_levels d) (items_outline_levels ds)

  members_outline_levels : (ms : Members) → tree.members_depth (members_outline ms) ≡ members_depth ms
  members_outline_levels no_members = refl
  members_outline_levels (member k d ms) = ap₂ max (outline_levels d) (members_outline_levels ms)

pub whole_written : (d : Data) (text : List ℕ) → depth d ≤ max_depth → text ≡ print (tokens text) → IsUtf8 text → IsInOrder text d → read text ≡ Some d → WritesValue d text
whole_written d text shallow compact utf8 order reads =
    let j = order.0 in
    let level : tree.depth j ≡ depth d = sym (blank_levels j) ∙ ap tree.depth order.2 ∙ outline_levels d in
    record {
      written = j;
      printed = compact ∙ ap print order.1;
      utf8 = utf8;
      numbers = value-HasNumbers max_depth (tree.json_tokens j) [] j (subst ArePrintableOrBad order.1 (ArePrintableOrBad-tokens text)) (ap (json.value max_depth) (sym (append-nil (tree.json_tokens j))) ∙ value-json_tokens j max_depth [] (omega (arith, level, shallow)));
      reads = sym (reads_as text j order.1 (omega (arith, level, shallow))) ∙ reads;
      levels = omega (arith, level);
      outlined = order.2;
    }
