-- Lines with their digests or without, some and then more.
use Rattle.std.proofs.Common.{◌≡◌, ℕ, cond, List, [], ◌∷◌, ◌++◌, Option, Some, None, ap, sym, ◌∙◌, refl, append_assoc}
use Rattle.std.specs.Prelude.{◌==◌}
use Rattle.std.specs.List.{list_any}
use Rattle.sealed_lines.specs.Chains.{behind, chain_after, sealed, sealed_line}
use Rattle.sealed_lines.specs.Lines.{AreLines, HasNoFeed, with_line, written}
use Rattle.sealed_lines.specs.Reading.{ends_quoted, is_sealed}
use Rattle.sealed_lines.specs.declared.chain.Chain.{Chain}
use Rattle.durable_journal.specs.Files.{bytes_of, chain_past}
use Rattle.durable_journal.specs.Lines.{whole_part}
use Rattle.durable_journal.proofs.WholeParts.{keeps, or_false}

pub sealed_more : (chain : Chain) (lines more : List (List ℕ)) → sealed chain (lines ++ more) ≡ sealed chain lines ++ sealed (chain_after chain lines) more
sealed_more chain [] more = refl
sealed_more chain (line ∷ lines) more =
    let next = behind chain line in
    ap (with_line (sealed_line chain line)) (sealed_more next lines more) ∙ sym (append_assoc (sealed_line chain line) (10 ∷ sealed next lines) (sealed (chain_after next lines) more))

pub after_more : (chain : Chain) (lines more : List (List ℕ)) → chain_after chain (lines ++ more) ≡ chain_after (chain_after chain lines) more
after_more chain [] more = refl
after_more chain (line ∷ lines) more = after_more (behind chain line) lines more

pub written_more : (lines more : List (List ℕ)) → written (lines ++ more) ≡ written lines ++ written more
written_more [] more = refl
written_more (line ∷ lines) more = ap (with_line line) (written_more lines more) ∙ sym (append_assoc line (10 ∷ written lines) (written more))

pub bytes_more : (chain : Option Chain) (lines more : List (List ℕ)) → bytes_of chain (lines ++ more) ≡ bytes_of chain lines ++ bytes_of (chain_past chain lines) more
bytes_more None lines more = written_more lines more
bytes_more (Some chain) lines more = sealed_more chain lines more

pub chain_more : (chain : Option Chain) (lines more : List (List ℕ)) → chain_past chain (lines ++ more) ≡ chain_past (chain_past chain lines) more
chain_more None lines more = refl
chain_more (Some chain) lines more = ap Some (after_more chain lines more)

pub are_more : (lines more : List (List ℕ)) → AreLines lines → AreLines more → AreLines (lines ++ more)
are_more [] more are others = others
are_more (line ∷ lines) more are others = (are.0, are_more lines more are.1 others)

-- lines with digests are kept, and then what is whole of the rest
pub kept_sealed : (chain : Chain) (lines : List (List ℕ)) (front : List ℕ) → whole_part (sealed chain lines ++ front) ≡ sealed chain lines ++ whole_part front
kept_sealed chain [] front = refl
kept_sealed chain (line ∷ lines) front =
    let whole = sealed_line chain line in
    let rest = sealed (behind chain line) lines in
    ap whole_part (append_assoc whole (10 ∷ rest) front) ∙ keeps whole (rest ++ front) ∙ ap (with_line whole) (kept_sealed (behind chain line) lines front) ∙ sym (append_assoc whole (10 ∷ rest) (whole_part front))

-- the first line alone tells whether lines have digests
told_same : (last : ℕ) (line rest other : List ℕ) → HasNoFeed line → ends_quoted last (with_line line rest) ≡ ends_quoted last (with_line line other)
told_same last [] rest other absent = refl
told_same last (b ∷ bs) rest other absent =
    let parts = or_false (b == 10) (list_any (λ x. x == 10) bs) absent in
    ap (λ t. cond t (last == 0x22) (ends_quoted b (with_line bs rest))) parts.0 ∙ told_same b bs rest other parts.1 ∙ ap (λ t. cond t (last == 0x22) (ends_quoted b (with_line bs other))) (sym parts.0)

pub sealed_same : (line rest other : List ℕ) → HasNoFeed line → is_sealed (with_line line rest) ≡ is_sealed (with_line line other)
unfolding is_sealed
sealed_same line rest other absent = told_same 0 line rest other absent
