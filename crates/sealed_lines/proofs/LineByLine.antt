-- A text with digests, line by line.
use denote.Ref.{Bor}
use Rattle.std.proofs.Common.{◌≡◌, ℕ, ◌+◌, Bool, true, false, cond, not, ◌&&◌, List, [], ◌∷◌, ◌++◌, length, Option, Some, None, Result, Ok, Err, refl, sym, ap, ◌∙◌, arith, append_assoc, append-nil}
use Rattle.std.specs.Prelude.{◌==◌, is_none, is_some}
use Rattle.std.specs.List.{onto_first}
use Rattle.std.proofs.lemmas.Bool.{ne_eqb}
use Rattle.sealed_lines.specs.Chains.{behind}
use Rattle.sealed_lines.specs.Lines.{lines_in, lines_left, with_line}
use Rattle.sealed_lines.specs.Reading.{has_seal, is_end, onto, opened_lines, plain_part, read_as, unsealed_from, wrong_at}
use Rattle.sealed_lines.specs.declared.chain.Chain.{Chain}
use Rattle.sealed_lines.specs.declared.unsealing.PlainLines.{PlainLines}
use Rattle.sealed_lines.specs.declared.unsealing.WrongDigest.{WrongDigest}
use Rattle.sealed_lines.proofs.SealedTexts.{past_line}

-- ---- the end

some_by : (fed : Bool) (b : ℕ) (parts : List (List ℕ)) → is_end [] (cond fed ([] ∷ parts) (onto_first b parts)) ≡ false
some_by true b parts = refl
some_by false b [] = refl
some_by false b (part ∷ parts) = refl

-- a text has a line at least
text_no_end : (text : List ℕ) → is_end [] (lines_in text) ≡ false
text_no_end [] = refl
text_no_end (b ∷ bs) = some_by (b == 10) b (lines_in bs)

pub ends : (line : List ℕ) (others : Option (Bor (List ℕ))) → ((length line == 0) && is_none others) ≡ is_end line (lines_left others)
ends [] None = refl
ends [] (Some bytes) = sym (text_no_end bytes.now)
ends (b ∷ bs) others = ap (λ t. t && is_none others) (ne_eqb (length (b ∷ bs)) 0 (λ z. omega (arith, z)))

turned : (a b : Bool) → a ≡ not b → b ≡ not a
turned true true e = e
turned true false e = refl
turned false true e = refl
turned false false e = e

pub at_empty : (line : List ℕ) (others : Option (Bor (List ℕ))) (empty nothing : Bool) → empty ≡ (length line == 0) → empty ≡ true → is_some others ≡ not nothing → nothing ≡ is_end line (lines_left others)
at_empty line others empty nothing e h k = turned (is_some others) nothing k ∙ ap (λ t. t && is_none others) (sym h ∙ e) ∙ ends line others

-- ---- as a loop meets the lines

pub on_end : (start : Result PlainLines WrongDigest) (front : List ℕ) (number : ℕ) (chain : Chain) (all : List (List ℕ)) (line : List ℕ) (lines : List (List ℕ)) → start ≡ opened_lines front number chain all → all ≡ line ∷ lines
    → is_end line lines ≡ true → start ≡ Ok (read_as front chain)
unfolding unsealed_from
on_end start front number chain all line lines before is end =
    before ∙ ap (opened_lines front number chain) is
    ∙ ap (λ b. onto front (cond b (Ok (read_as [] chain)) (cond (has_seal chain line) (onto (with_line (plain_part line) []) (unsealed_from (number + 1) (behind chain (plain_part line)) lines)) (Err (wrong_at number))))) end
    ∙ ap (λ t. Ok (read_as t chain)) (append-nil front)

pub on_nothing : (start : Result PlainLines WrongDigest) (front : List ℕ) (number : ℕ) (chain : Chain) (all : List (List ℕ)) → start ≡ opened_lines front number chain all → all ≡ [] → start ≡ Ok (read_as front chain)
unfolding unsealed_from
on_nothing start front number chain all before is = before ∙ ap (opened_lines front number chain) is ∙ ap (λ t. Ok (read_as t chain)) (append-nil front)

wrong_by : (front : List ℕ) (number : ℕ) (chain : Chain) (at_end held : Bool) (next : Result PlainLines WrongDigest) → at_end ≡ false → held ≡ false
    → onto front (cond at_end (Ok (read_as [] chain)) (cond held next (Err (wrong_at number)))) ≡ Err (wrong_at number)
wrong_by front number chain at_end held next e h = rw (e, h) refl

pub on_wrong : (start : Result PlainLines WrongDigest) (front : List ℕ) (number : ℕ) (chain : Chain) (all : List (List ℕ)) (line : List ℕ) (lines : List (List ℕ)) → start ≡ opened_lines front number chain all → all ≡ line ∷ lines
    → is_end line lines ≡ false → has_seal chain line ≡ false → start ≡ Err (wrong_at number)
unfolding unsealed_from
on_wrong start front number chain all line lines before is goes_on wrong =
    before ∙ ap (opened_lines front number chain) is
    ∙ wrong_by front number chain (is_end line lines) (has_seal chain line) (onto (with_line (plain_part line) []) (unsealed_from (number + 1) (behind chain (plain_part line)) lines)) goes_on wrong

onto_both : (front more : List ℕ) (r : Result PlainLines WrongDigest) → onto front (onto more r) ≡ onto (front ++ more) r
onto_both front more (Ok u) = ap (λ t. Ok (read_as t u.chain)) (sym (append_assoc front more u.text))
onto_both front more (Err wrong) = refl

pub on_right : (start : Result PlainLines WrongDigest) (front new : List ℕ) (number : ℕ) (chain next : Chain) (all : List (List ℕ)) (line : List ℕ) (lines : List (List ℕ)) → start ≡ opened_lines front number chain all
    → all ≡ line ∷ lines → is_end line lines ≡ false → has_seal chain line ≡ true → next ≡ behind chain (plain_part line) → new ≡ front ++ with_line (plain_part line) [] → start ≡ opened_lines new (number + 1) next lines
on_right start front new number chain next all line lines before is goes_on right chained added =
    before ∙ ap (opened_lines front number chain) is ∙ ap (onto front) (past_line number chain line lines goes_on right)
    ∙ onto_both front (with_line (plain_part line) []) (unsealed_from (number + 1) (behind chain (plain_part line)) lines)
    ∙ ap (λ t. onto t (unsealed_from (number + 1) (behind chain (plain_part line)) lines)) (sym added) ∙ ap (λ c. opened_lines new (number + 1) c lines) (sym chained)
