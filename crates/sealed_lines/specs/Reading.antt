-- What is read of a text. Its first line tells: where that ends with a quotation mark, as no JSON object does, each line has a digest, and
-- else none has.
use Rattle.std.specs.Prelude.{ℕ, ◌+◌, ◌-◌, ◌==◌, List, [], ◌∷◌, ◌++◌, length, take, drop, Bool, true, false, Option, Some, None, Result, Ok, Err, if◌then◌else◌}
use Rattle.std.specs.Str.{bytes_eq}
use Rattle.sealed_lines.specs.Chains.{behind, seal, start}
use Rattle.sealed_lines.specs.Lines.{lines_in, with_line}
use Rattle.sealed_lines.specs.declared.chain.Chain.{Chain}
use Rattle.sealed_lines.specs.declared.unsealing.PlainLines.{PlainLines}
use Rattle.sealed_lines.specs.declared.unsealing.WrongDigest.{WrongDigest}

-- ---- whether lines have digests

-- the byte before the first line feed, or before the end, is a quotation mark, where this is the byte before these
abbrev pub ends_quoted : ℕ → List ℕ → Bool
ends_quoted last [] = last == 0x22
ends_quoted last (b ∷ bs) = if b == 10 then last == 0x22 else ends_quoted b bs

unfoldable pub is_sealed : List ℕ → Bool
is_sealed text = ends_quoted 0 text

-- ---- a line

-- without the bytes of a digest
abbrev pub plain_part : List ℕ → List ℕ
plain_part line = take (length line - 19) line

-- the bytes of a digest are those of the line's
unfoldable pub has_seal : Chain → List ℕ → Bool
has_seal chain line = bytes_eq (drop (length line - 19) line) (seal (behind chain (plain_part line)))

-- ---- all lines, counted from 1

abbrev pub read_as : List ℕ → Chain → PlainLines
read_as text chain = record { text = text; chain = chain }

abbrev pub wrong_at : ℕ → WrongDigest
wrong_at number = record { line = number }

-- more text before what is read
abbrev pub onto : List ℕ → Result PlainLines WrongDigest → Result PlainLines WrongDigest
onto front (Ok u) = Ok (read_as (front ++ u.text) u.chain)
onto front (Err wrong) = Err wrong

-- nothing stands behind the last line feed
abbrev pub is_end : List ℕ → List (List ℕ) → Bool
is_end [] [] = true
is_end [] (line ∷ lines) = false
is_end (b ∷ bs) lines = false

unfoldable pub unsealed_from : ℕ → Chain → List (List ℕ) → Result PlainLines WrongDigest
unsealed_from number chain [] = Ok (read_as [] chain)
unsealed_from number chain (line ∷ lines) =
    if is_end line lines then Ok (read_as [] chain)
    else if has_seal chain line then onto (with_line (plain_part line) []) (unsealed_from (number + 1) (behind chain (plain_part line)) lines)
    else Err (wrong_at number)

unfoldable pub unsealed : List ℕ → Result PlainLines WrongDigest
unsealed text = unsealed_from 1 start (lines_in text)

-- ---- what a text says, with digests or without

abbrev pub text_in : Result PlainLines WrongDigest → Result (List ℕ) WrongDigest
text_in (Ok u) = Ok u.text
text_in (Err wrong) = Err wrong

abbrev pub plain_of : List ℕ → Result (List ℕ) WrongDigest
plain_of text = if is_sealed text then text_in (unsealed text) else Ok text

-- ---- as a loop over the lines meets them

abbrev pub outcome : Option ℕ → List ℕ → Chain → Result PlainLines WrongDigest
outcome None text chain = Ok (read_as text chain)
outcome (Some number) text chain = Err (wrong_at number)

abbrev pub opened_lines : List ℕ → ℕ → Chain → List (List ℕ) → Result PlainLines WrongDigest
opened_lines front number chain lines = onto front (unsealed_from number chain lines)

-- ---- without a look at the digests

abbrev pub unquoted_part : List ℕ → List ℕ
unquoted_part line = if is_sealed line then plain_part line else line

abbrev pub unquoted : List ℕ → List ℕ
unquoted line = with_line (unquoted_part line) []

abbrev pub unquoted_lines : List (List ℕ) → List ℕ
unquoted_lines [] = []
unquoted_lines (line ∷ lines) = unquoted line ++ unquoted_lines lines
