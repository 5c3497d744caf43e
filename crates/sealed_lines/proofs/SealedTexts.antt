-- Lines with their digests are read.
use Rattle.std.proofs.Common.{◌≡◌, ℕ, zero, suc, ◌+◌, ◌-◌, ◌<◌, Bool, true, false, cond, ◌||◌, List, [], ◌∷◌, ◌++◌, length, take, drop, Ok, Err, refl, sym, ap, ◌∙◌, arith, append_assoc}
use Rattle.std.specs.Prelude.{◌==◌, codes, slice_index}
use Rattle.std.specs.List.{list_any}
use Rattle.std.proofs.lemmas.List.{length-append, length-take-le}
use Rattle.std.proofs.lemmas.Slice.Eq.{bytes_eq-Decides}
use Rattle.std.proofs.Math.Seq.{drop-append_seam, take-append_seam}
use Rattle.hex.specs.Hex.{encode_with, lower_digits}
use Rattle.hex.proofs.HexLemmas.{length-encode_with}
use Rattle.sha2.specs.Sha256.{sha256}
use Rattle.sha2.proofs.Facts256.{length-sha256}
use Rattle.sealed_lines.specs.Chains.{behind, chain_after, seal, sealed, sealed_line, start}
use Rattle.sealed_lines.specs.Laws.{SealedAreRead}
use Rattle.sealed_lines.specs.Lines.{AreLines, HasNoFeed, lines_in, with_line, written}
use Rattle.sealed_lines.specs.Reading.{ends_quoted, has_seal, is_end, is_sealed, onto, plain_part, read_as, unsealed, unsealed_from}
use Rattle.sealed_lines.specs.declared.chain.Chain.{Chain}
use Rattle.sealed_lines.proofs.Texts.{line_ends, or_false}

-- ---- a digest: 16 bytes, and no line feed

pub digits_length : (chain : Chain) (line : List ℕ) → length (behind chain line).digits ≡ 16
unfolding behind
digits_length chain line =
    let whole : length (sha256 (chain.digits ++ line)) ≡ 32 = length-sha256 (chain.digits ++ line) in
    let front : length (take 8 (sha256 (chain.digits ++ line))) ≡ 8 = length-take-le 8 (sha256 (chain.digits ++ line)) (omega (arith, whole)) in
    omega (arith, length-encode_with lower_digits (take 8 (sha256 (chain.digits ++ line))), front)

digit_no_feed : (table : List ℕ) (i : ℕ) → HasNoFeed table → (slice_index table i == 10) ≡ false
digit_no_feed [] i absent = refl
digit_no_feed (b ∷ bs) zero absent = (or_false (b == 10) (list_any (λ x. x == 10) bs) absent).0
digit_no_feed (b ∷ bs) (suc i) absent = digit_no_feed bs i (or_false (b == 10) (list_any (λ x. x == 10) bs) absent).1

pub or_both : (a b : Bool) → a ≡ false → b ≡ false → (a || b) ≡ false
or_both a b h k = rw (h, k) refl

encoded_no_feed : (table bytes : List ℕ) → HasNoFeed table → HasNoFeed (encode_with table bytes)
unfolding encode_with
encoded_no_feed table [] absent = refl
encoded_no_feed table (b ∷ bs) absent = or_both _ _ (digit_no_feed table _ absent) (or_both _ _ (digit_no_feed table _ absent) (encoded_no_feed table bs absent))

pub any_append : (xs ys : List ℕ) → HasNoFeed xs → HasNoFeed ys → HasNoFeed (xs ++ ys)
any_append [] ys h k = k
any_append (x ∷ xs) ys h k = let parts = or_false (x == 10) (list_any (λ b. b == 10) xs) h in or_both _ _ parts.0 (any_append xs ys parts.1 k)

digits_no_feed : (chain : Chain) (line : List ℕ) → HasNoFeed (behind chain line).digits
unfolding behind
digits_no_feed chain line = encoded_no_feed lower_digits _ refl

seal_no_feed : (chain : Chain) (line : List ℕ) → HasNoFeed (seal (behind chain line))
seal_no_feed chain line = any_append (behind chain line).digits (codes "\"") (digits_no_feed chain line) refl

pub sealed_no_feed : (chain : Chain) (line : List ℕ) → HasNoFeed line → HasNoFeed (sealed_line chain line)
sealed_no_feed chain line absent = any_append line (seal (behind chain line)) absent (seal_no_feed chain line)

pub seal_length : (chain : Chain) (line : List ℕ) → length (seal (behind chain line)) ≡ 19
seal_length chain line = omega (arith, length-append (behind chain line).digits (codes "\""), digits_length chain line)

-- ---- one line

front_length : (chain : Chain) (line : List ℕ) → length (sealed_line chain line) - 19 ≡ length line
front_length chain line = omega (arith, length-append line (seal (behind chain line)), seal_length chain line)

pub plain_of_sealed : (chain : Chain) (line : List ℕ) → plain_part (sealed_line chain line) ≡ line
plain_of_sealed chain line = ap (λ n. take n (sealed_line chain line)) (front_length chain line) ∙ take-append_seam line (seal (behind chain line))

pub has_its_seal : (chain : Chain) (line : List ℕ) → has_seal chain (sealed_line chain line) ≡ true
unfolding has_seal
has_its_seal chain line =
    let whole = sealed_line chain line in
    let tail : drop (length whole - 19) whole ≡ seal (behind chain line) = ap (λ n. drop n whole) (front_length chain line) ∙ drop-append_seam line (seal (behind chain line)) in
    (bytes_eq-Decides (drop (length whole - 19) whole) (seal (behind chain (plain_part whole)))).1 (tail ∙ ap (λ l. seal (behind chain l)) (sym (plain_of_sealed chain line)))

no_end : (line : List ℕ) (lines : List (List ℕ)) → 0 < length line → is_end line lines ≡ false
no_end [] lines some = absurd (omega (arith, some))
no_end (b ∷ bs) lines some = refl

sealed_some : (chain : Chain) (line : List ℕ) → 0 < length (sealed_line chain line)
sealed_some chain line = omega (arith, length-append line (seal (behind chain line)), seal_length chain line)

-- ---- all lines

next_line : (number : ℕ) (chain : Chain) (line : List ℕ) (lines : List (List ℕ)) (at_end held : Bool) → at_end ≡ false → held ≡ true
    → cond at_end (Ok (read_as [] chain)) (cond held (onto (with_line (plain_part line) []) (unsealed_from (number + 1) (behind chain (plain_part line)) lines)) (Err (record { line = number })))
    ≡ onto (with_line (plain_part line) []) (unsealed_from (number + 1) (behind chain (plain_part line)) lines)
next_line number chain line lines at_end held e h = rw (e, h) refl

pub past_line : (number : ℕ) (chain : Chain) (line : List ℕ) (lines : List (List ℕ)) → is_end line lines ≡ false → has_seal chain line ≡ true
    → unsealed_from number chain (line ∷ lines) ≡ onto (with_line (plain_part line) []) (unsealed_from (number + 1) (behind chain (plain_part line)) lines)
unfolding unsealed_from
past_line number chain line lines e h = next_line number chain line lines (is_end line lines) (has_seal chain line) e h

at_last : (number : ℕ) (chain : Chain) → unsealed_from number chain ([] ∷ []) ≡ Ok (read_as [] chain)
unfolding unsealed_from
at_last number chain = refl

pub reads_from : (number : ℕ) (chain : Chain) (lines : List (List ℕ)) → AreLines lines → unsealed_from number chain (lines_in (sealed chain lines)) ≡ Ok (read_as (written lines) (chain_after chain lines))
reads_from number chain [] are = at_last number chain
reads_from number chain (line ∷ lines) are =
    let whole = sealed_line chain line in
    let next = behind chain line in
    let rest = lines_in (sealed next lines) in
    ap (unsealed_from number chain) (line_ends whole (sealed next lines) (sealed_no_feed chain line are.0))
    ∙ past_line number chain whole rest (no_end whole rest (sealed_some chain line)) (has_its_seal chain line)
    ∙ ap (λ l. onto (with_line l []) (unsealed_from (number + 1) (behind chain l) rest)) (plain_of_sealed chain line)
    ∙ ap (onto (with_line line [])) (reads_from (number + 1) next lines are.1)
    ∙ ap (λ t. Ok (read_as t (chain_after next lines))) (append_assoc line (10 ∷ []) (written lines))

-- ---- the first line tells

quote_ends : (last : ℕ) (line rest : List ℕ) → HasNoFeed line → ends_quoted last (line ++ 0x22 ∷ 10 ∷ rest) ≡ true
quote_ends last [] rest absent = refl
quote_ends last (b ∷ bs) rest absent =
    let parts = or_false (b == 10) (list_any (λ x. x == 10) bs) absent in
    ap (λ t. cond t (last == 0x22) (ends_quoted b (bs ++ 0x22 ∷ 10 ∷ rest))) parts.0 ∙ quote_ends b bs rest parts.1

pub sealed_tells : (chain : Chain) (line rest : List ℕ) → HasNoFeed line → is_sealed (with_line (sealed_line chain line) rest) ≡ true
unfolding is_sealed
sealed_tells chain line rest absent =
    let digits = (behind chain line).digits in
    let form : with_line (sealed_line chain line) rest ≡ (line ++ (codes " \"" ++ digits)) ++ 0x22 ∷ 10 ∷ rest =
    append_assoc line (seal (behind chain line)) (10 ∷ rest) ∙ ap (λ t. line ++ (codes " \"" ++ t)) (append_assoc digits (codes "\"") (10 ∷ rest)) ∙ sym (append_assoc line (codes " \"" ++ digits) (0x22 ∷ 10 ∷ rest)) in
    ap (ends_quoted 0) form ∙ quote_ends 0 (line ++ (codes " \"" ++ digits)) rest (any_append line (codes " \"" ++ digits) absent (digits_no_feed chain line))

pub sealed_are_read : SealedAreRead
unfolding unsealed
sealed_are_read first lines are = (sealed_tells start first (sealed (behind start first) lines) are.0, reads_from 1 start (first ∷ lines) are)
