-- What is accepted is the text of its lines with their digests.
use Rattle.std.proofs.Common.{◌≡◌, ◌⊎◌, inl, inr, ℕ, zero, suc, ◌+◌, ◌-◌, Bool, true, false, cond, List, [], ◌∷◌, ◌++◌, length, take, drop, Result, Ok, Err, refl, sym, ap, subst, ◌∙◌, append_assoc, append-nil}
use Rattle.std.specs.Prelude.{◌==◌}
use Rattle.std.specs.List.{join_with_byte, list_any, onto_first}
use Rattle.std.proofs.lemmas.List.{take-append-drop}
use Rattle.std.proofs.lemmas.List.Splits.{join_with_byte-slice_split}
use Rattle.std.proofs.lemmas.Slice.Eq.{bytes_eq-Decides}
use Rattle.sealed_lines.specs.Chains.{behind, chain_after, seal, sealed, sealed_line, start}
use Rattle.sealed_lines.specs.Laws.{AcceptedAreSealed}
use Rattle.sealed_lines.specs.Lines.{AreLines, HasNoFeed, lines_in, with_line, written}
use Rattle.sealed_lines.specs.Reading.{has_seal, is_end, onto, plain_part, read_as, unsealed, unsealed_from, wrong_at}
use Rattle.sealed_lines.specs.declared.chain.Chain.{Chain}
use Rattle.sealed_lines.specs.declared.unsealing.PlainLines.{PlainLines}
use Rattle.sealed_lines.specs.declared.unsealing.WrongDigest.{WrongDigest}
use Rattle.sealed_lines.proofs.SealedTexts.{or_both}
use Rattle.sealed_lines.proofs.Texts.{or_false}

-- ---- lines that a text is cut into

split_by : (fed : Bool) (b : ℕ) (parts : List (List ℕ)) → (b == 10) ≡ fed → AreLines parts → AreLines (cond fed ([] ∷ parts) (onto_first b parts))
split_by true b parts is are = (refl, are)
split_by false b [] is are = (or_both (b == 10) _ is refl, tt)
split_by false b (part ∷ parts) is are = (or_both (b == 10) _ is are.0, are.1)

pub are_lines : (text : List ℕ) → AreLines (lines_in text)
are_lines [] = (refl, tt)
are_lines (b ∷ bs) = split_by (b == 10) b (lines_in bs) refl (are_lines bs)

front_has_none : (n : ℕ) (line : List ℕ) → HasNoFeed line → HasNoFeed (take n line)
front_has_none zero line absent = refl
front_has_none (suc n) [] absent = refl
front_has_none (suc n) (b ∷ bs) absent = let parts = or_false (b == 10) (list_any (λ x. x == 10) bs) absent in or_both _ _ parts.0 (front_has_none n bs parts.1)

-- ---- one line

-- a line whose digest is right is the line without it, with its digest
sealed_again : (chain : Chain) (line : List ℕ) → has_seal chain line ≡ true → line ≡ sealed_line chain (plain_part line)
unfolding has_seal
sealed_again chain line h =
    sym (take-append-drop (length line - 19) line) ∙ ap (λ t. plain_part line ++ t) ((bytes_eq-Decides (drop (length line - 19) line) (seal (behind chain (plain_part line)))).0 h)

-- ---- all lines

-- these lines with their digests are the text, or the text and a line feed
pub record IsRead (chain : Chain) (text : List ℕ) (u : PlainLines) : Type 0 where
  pub lines : List (List ℕ)
  pub are : AreLines lines
  pub whole : (text ≡ sealed chain lines) ⊎ (text ++ 10 ∷ [] ≡ sealed chain lines)
  pub says : u.text ≡ written lines
  pub chain_is : u.chain ≡ chain_after chain lines

none_read : (chain : Chain) (r : Result PlainLines WrongDigest) (u : PlainLines) → r ≡ Ok (read_as [] chain) → r ≡ Ok u → IsRead chain [] u
none_read chain r u nothing e =
    let same : read_as [] chain ≡ u = cc in
    record { lines = []; are = tt; whole = inl refl; says = ap (λ (x : PlainLines). x.text) (sym same); chain_is = ap (λ (x : PlainLines). x.chain) (sym same) }

behind_line : (chain : Chain) (line rest : List ℕ) (u more : PlainLines) → HasNoFeed line → read_as (with_line line [] ++ more.text) more.chain ≡ u → IsRead (behind chain line) rest more
    → IsRead chain (with_line (sealed_line chain line) rest) u
behind_line chain line rest u more absent same read =
    record {
      lines = line ∷ read.lines;
      are = (absent, read.are);
      whole =
          elim read.whole as (λ x. (with_line (sealed_line chain line) rest ≡ sealed chain (line ∷ read.lines)) ⊎ (with_line (sealed_line chain line) rest ++ 10 ∷ [] ≡ sealed chain (line ∷ read.lines))) [
            | inl e ↦ inl (ap (with_line (sealed_line chain line)) e)
            | inr e ↦ inr (append_assoc (sealed_line chain line) (10 ∷ rest) (10 ∷ []) ∙ ap (with_line (sealed_line chain line)) e)
          ];
      says = ap (λ (x : PlainLines). x.text) (sym same) ∙ append_assoc line (10 ∷ []) more.text ∙ ap (with_line line) read.says;
      chain_is = ap (λ (x : PlainLines). x.chain) (sym same) ∙ read.chain_is;
    }

-- the last line, without its line feed
last_line : (chain : Chain) (line : List ℕ) (u : PlainLines) → HasNoFeed line → read_as (with_line line []) (behind chain line) ≡ u → IsRead chain (sealed_line chain line) u
last_line chain line u absent same =
    record {
      lines = line ∷ [];
      are = (absent, tt);
      whole = inr refl;
      says = ap (λ (x : PlainLines). x.text) (sym same);
      chain_is = ap (λ (x : PlainLines). x.chain) (sym same);
    }

-- what was put before what is read
record IsOnto (front : List ℕ) (r : Result PlainLines WrongDigest) (u : PlainLines) : Type 0 where
  more : PlainLines
  read : r ≡ Ok more
  same : read_as (front ++ more.text) more.chain ≡ u

put_before : (front : List ℕ) (r : Result PlainLines WrongDigest) (u : PlainLines) → onto front r ≡ Ok u → IsOnto front r u
put_before front (Ok more) u e = record { more = more; read = refl; same = cc }
put_before front (Err wrong) u e = cc

-- the text of lines, joined
abbrev joined : List (List ℕ) → List ℕ
joined = join_with_byte 10

ok_line : (at_end held : Bool) (number : ℕ) (chain : Chain) (u : PlainLines) (next : Result PlainLines WrongDigest) → at_end ≡ false → cond at_end (Ok (read_as [] chain)) (cond held next (Err (wrong_at number))) ≡ Ok u → (held ≡ true) × (next ≡ Ok u)
ok_line true held number chain u next goes_on e = cc
ok_line false true number chain u next goes_on e = (refl, e)
ok_line false false number chain u next goes_on e = cc

ok_past : (number : ℕ) (chain : Chain) (line : List ℕ) (lines : List (List ℕ)) (u : PlainLines) → is_end line lines ≡ false → unsealed_from number chain (line ∷ lines) ≡ Ok u
    → (has_seal chain line ≡ true) × IsOnto (with_line (plain_part line) []) (unsealed_from (number + 1) (behind chain (plain_part line)) lines) u
unfolding unsealed_from
ok_past number chain line lines u goes_on e =
    let parts = ok_line (is_end line lines) (has_seal chain line) number chain u (onto (with_line (plain_part line) []) (unsealed_from (number + 1) (behind chain (plain_part line)) lines)) goes_on e in
    (parts.0, put_before (with_line (plain_part line) []) (unsealed_from (number + 1) (behind chain (plain_part line)) lines) u parts.1)

nothing_left : (number : ℕ) (chain : Chain) → unsealed_from number chain [] ≡ Ok (read_as [] chain)
unfolding unsealed_from
nothing_left number chain = refl

nothing_behind : (number : ℕ) (chain : Chain) → unsealed_from number chain ([] ∷ []) ≡ Ok (read_as [] chain)
unfolding unsealed_from
nothing_behind number chain = refl

read_last : (number : ℕ) (chain : Chain) (line : List ℕ) (u : PlainLines) → HasNoFeed line → is_end line [] ≡ false → unsealed_from number chain (line ∷ []) ≡ Ok u → IsRead chain line u
read_last number chain line u absent goes_on e =
    let past = ok_past number chain line [] u goes_on e in
    let front = plain_part line in
    let none : read_as [] (behind chain front) ≡ past.1.more = cc (nothing_left (number + 1) (behind chain front), past.1.read) in
    let same : read_as (with_line front []) (behind chain front) ≡ u = ap (λ t. read_as t (behind chain front)) (sym (append-nil (with_line front []))) ∙ ap (λ (m : PlainLines). read_as (with_line front [] ++ m.text) m.chain) none ∙ past.1.same in
    subst (λ (t : List ℕ). IsRead chain t u) (sym (sealed_again chain line past.0)) (last_line chain front u (front_has_none (length line - 19) line absent) same)

pub read_from : (number : ℕ) (chain : Chain) (lines : List (List ℕ)) (u : PlainLines) → AreLines lines → unsealed_from number chain lines ≡ Ok u → IsRead chain (joined lines) u
read_from number chain [] u are e = none_read chain (unsealed_from number chain []) u (nothing_left number chain) e
read_from number chain ([] ∷ []) u are e = none_read chain (unsealed_from number chain ([] ∷ [])) u (nothing_behind number chain) e
read_from number chain ((b ∷ bs) ∷ []) u are e = read_last number chain (b ∷ bs) u are.0 refl e
read_from number chain (line ∷ next ∷ lines) u are e =
    let past = ok_past number chain line (next ∷ lines) u (not_last line) e in
    let front = plain_part line in
    let rest = read_from (number + 1) (behind chain front) (next ∷ lines) past.1.more are.1 past.1.read in
    subst (λ (t : List ℕ). IsRead chain (with_line t (joined (next ∷ lines))) u) (sym (sealed_again chain line past.0))
    (behind_line chain front (joined (next ∷ lines)) u past.1.more (front_has_none (length line - 19) line are.0) past.1.same rest)
  where
    not_last : (l : List ℕ) → is_end l (next ∷ lines) ≡ false
    not_last [] = refl
    not_last (c ∷ cs) = refl

pub accepted_are_sealed : AcceptedAreSealed
unfolding unsealed
accepted_are_sealed text u e =
    let read = read_from 1 start (lines_in text) u (are_lines text) e in
    let same : joined (lines_in text) ≡ text = join_with_byte-slice_split 10 text in
    record {
      lines = read.lines;
      are = read.are;
      whole = subst (λ (t : List ℕ). (t ≡ sealed start read.lines) ⊎ (t ++ 10 ∷ [] ≡ sealed start read.lines)) same read.whole;
      says = read.says;
      chain = read.chain_is;
    }
