-- What is known of a text that was written.
use Rattle.std.proofs.Common.{◌≡◌, ◌≤◌, ℕ, false, List, [], sym, ap, ◌∙◌, arith, append-nil}
use Rattle.std.specs.Prelude.{option_and_then}
use Rattle.std.specs.List.{list_any}
use Rattle.json.specs.Json as json
use Rattle.json.specs.Lex.{tokens}
use Rattle.json.specs.Print.{print}
use Rattle.json.specs.Tree as tree
use Rattle.json.proofs.Printed.Tokens.{tokens-print}
use Rattle.json.proofs.Printed.Trees.{ArePrintable-json_tokens, value-json_tokens}
use Rattle.serde_json.specs.Data.{Data}
use Rattle.serde_json.specs.Read.{max_depth, of_json, read}
use Rattle.serde_json.proofs.Texts.{print-outline, tokens_from_order}
use Rattle.json_values.specs.Texts.{is_line_feed}
use Rattle.json_values.proofs.Texts.{json_of-text}
use Rattle.json_pieces.specs.Texts.{IsTextOf, WritesValue}
use Rattle.json_pieces.proofs.OneLine.{printed_in_one_line}

-- a text of these tokens is read as the JSON is
pub reads_as : (text : List ℕ) (j : json.Json) → tokens text ≡ tree.json_tokens j → tree.depth j ≤ max_depth → read text ≡ of_json j
reads_as text j same shallow =
    ap (λ o. option_and_then of_json (option_and_then (λ p. json.if_last p.0 p.1) o)) (ap (json.value max_depth) (same ∙ sym (append-nil _)) ∙ value-json_tokens j max_depth [] shallow)

pub said : (d : Data) (text : List ℕ) → WritesValue d text → IsTextOf d text
said d text w =
    let printable = ArePrintable-json_tokens w.written w.numbers in
    let same : tokens text ≡ tree.json_tokens w.written = ap tokens w.printed ∙ tokens-print (tree.json_tokens w.written) printable in
    let compact : text ≡ print (tokens text) = w.printed ∙ ap print (sym same) in
    record {
      form = λ none. compact ∙ ap print (tokens_from_order text d (w.written, same, w.outlined) none) ∙ print-outline d;
      one_line = ap (list_any is_line_feed) w.printed ∙ printed_in_one_line false (tree.json_tokens w.written) printable;
      compact = compact;
      order = (w.written, same, w.outlined);
      reads_back = λ shallow. json_of-text text d w.utf8 (reads_as text w.written same (omega (arith, w.levels, shallow)) ∙ w.reads);
    }
