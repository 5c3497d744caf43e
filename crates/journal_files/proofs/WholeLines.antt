-- What is whole of a file are lines, each with its line feed.
use Rattle.std.proofs.Common.{◌≡◌, ℕ, Bool, true, false, cond, ◌||◌, List, [], ◌∷◌, ◌++◌, length, take, refl, sym, ap, ◌∙◌, arith, append_assoc}
use Rattle.std.specs.Prelude.{◌==◌}
use Rattle.std.specs.List.{list_any}
use Rattle.std.proofs.lemmas.List.{length-append}
use Rattle.json_values.specs.Texts.{is_line_feed}
use Rattle.sealed_lines.specs.Chains.{behind, seal, sealed, sealed_line}
use Rattle.sealed_lines.specs.Lines.{AreLines, HasNoFeed, with_line, written}
use Rattle.sealed_lines.specs.declared.chain.Chain.{Chain}
use Rattle.sealed_lines.proofs.SealedTexts.{or_both, seal_length, sealed_no_feed}
use Rattle.sealed_lines.proofs.Texts.{or_false}
use Rattle.durable_journal.specs.Lines.{whole_part}

-- the text is lines
pub record IsWritten (text : List ℕ) : Type 0 where
  pub lines : List (List ℕ)
  pub are : AreLines lines
  pub is : text ≡ written lines

second : (a b : Bool) → a ≡ false → (a || b) ≡ true → b ≡ true
second true b first either = cc
second false b first either = either

is_feed : (b : ℕ) → (b == 10) ≡ true → b ≡ 10
is_feed b e = grind (arith, e)

-- where there is a line feed something is whole
some_whole : (bs : List ℕ) → list_any is_line_feed bs ≡ true → whole_part bs ≡ [] → ⊥
some_whole [] fed none = cc
some_whole (b ∷ bs) fed none = let e : b ∷ whole_part bs ≡ [] = sym (ap (λ t. cond t (b ∷ whole_part bs) []) fed) ∙ none in cc

-- a byte before the first line
first_more : (b : ℕ) (bs : List ℕ) → (b == 10) ≡ false → list_any is_line_feed bs ≡ true → (lines : List (List ℕ)) → AreLines lines → whole_part bs ≡ written lines → IsWritten (b ∷ whole_part bs)
first_more b bs other fed [] are is = absurd (some_whole bs fed is)
first_more b bs other fed (line ∷ lines) are is = record { lines = (b ∷ line) ∷ lines; are = (or_both (b == 10) _ other are.0, are.1); is = ap (λ t. b ∷ t) is }

one_more : (ends : Bool) (b : ℕ) (bs : List ℕ) → (b == 10) ≡ ends → list_any is_line_feed (b ∷ bs) ≡ true → IsWritten (whole_part bs) → IsWritten (b ∷ whole_part bs)
one_more true b bs e fed rest = record { lines = [] ∷ rest.lines; are = (refl, rest.are); is = ap (λ n. n ∷ whole_part bs) (is_feed b e) ∙ ap (λ t. 10 ∷ t) rest.is }
one_more false b bs e fed rest = first_more b bs e (second (b == 10) (list_any is_line_feed bs) e fed) rest.lines rest.are rest.is

written_by : (fed : Bool) (b : ℕ) (bs : List ℕ) → list_any is_line_feed (b ∷ bs) ≡ fed → IsWritten (whole_part bs) → IsWritten (cond fed (b ∷ whole_part bs) [])
written_by true b bs e rest = one_more (b == 10) b bs refl e rest
written_by false b bs e rest = record { lines = []; are = tt; is = refl }

pub whole_written : (bs : List ℕ) → IsWritten (whole_part bs)
whole_written [] = record { lines = []; are = tt; is = refl }
whole_written (b ∷ bs) = written_by (list_any is_line_feed (b ∷ bs)) b bs refl (whole_written bs)

-- and it comes first in the file
taken_by : (fed : Bool) (b : ℕ) (bs : List ℕ) → take (length (whole_part bs)) bs ≡ whole_part bs → take (length (cond fed (b ∷ whole_part bs) [])) (b ∷ bs) ≡ cond fed (b ∷ whole_part bs) []
taken_by true b bs e = ap (λ t. b ∷ t) e
taken_by false b bs e = refl

pub whole_taken : (bs : List ℕ) → take (length (whole_part bs)) bs ≡ whole_part bs
whole_taken [] = refl
whole_taken (b ∷ bs) = taken_by (list_any is_line_feed (b ∷ bs)) b bs (whole_taken bs)

-- ---- lines with digests

no_feed_first : (b : ℕ) (bs : List ℕ) → HasNoFeed (b ∷ bs) → b ≡ 10 → ⊥
no_feed_first b bs absent e = let parts = or_false (b == 10) (list_any (λ x. x == 10) bs) absent in let no : true ≡ false = ap (λ n. n == 10) (sym e) ∙ parts.0 in cc

same_rest : (line other rest others : List ℕ) → HasNoFeed line → HasNoFeed other → with_line line rest ≡ with_line other others → rest ≡ others
same_rest [] [] rest others absent none e = cc
same_rest [] (b ∷ bs) rest others absent none e = let first : b ≡ 10 = cc in absurd (no_feed_first b bs none first)
same_rest (b ∷ bs) [] rest others absent none e = let first : b ≡ 10 = cc in absurd (no_feed_first b bs absent first)
same_rest (b ∷ bs) (c ∷ cs) rest others absent none e =
    let tails : with_line bs rest ≡ with_line cs others = cc in
    same_rest bs cs rest others (or_false (b == 10) (list_any (λ x. x == 10) bs) absent).1 (or_false (c == 10) (list_any (λ x. x == 10) cs) none).1 tails

-- whole lines do not want a line feed more to have digests
pub no_feed_more : (chain : Chain) (whole lines : List (List ℕ)) → AreLines whole → AreLines lines → written whole ++ 10 ∷ [] ≡ sealed chain lines → ⊥
no_feed_more chain whole [] are lines_are e = omega (arith, ap length e, length-append (written whole) (10 ∷ []))
no_feed_more chain [] (line ∷ lines) are lines_are e =
    omega (arith, ap length e, length-append (sealed_line chain line) (10 ∷ sealed (behind chain line) lines), length-append line (seal (behind chain line)), seal_length chain line)
no_feed_more chain (first ∷ whole) (line ∷ lines) are lines_are e =
    no_feed_more (behind chain line) whole lines are.1 lines_are.1
    (same_rest first (sealed_line chain line) (written whole ++ 10 ∷ []) (sealed (behind chain line) lines) are.0 (sealed_no_feed chain line lines_are.0) (sym (append_assoc first (10 ∷ written whole) (10 ∷ [])) ∙ e))
