-- The compact text of a value has no line feed.
use Rattle.std.proofs.Common.{◌≡◌, ℕ, zero, suc, ◌+◌, ◌/◌, ◌%◌, pos, negsuc, Bool, true, false, cond, ◌||◌, List, [], ◌∷◌, ◌++◌, refl, ap, ◌∙◌, inl, inr, ◌⊎◌, arith}
use Rattle.std.specs.Prelude.{◌==◌, nat_lt, decimal}
use Rattle.std.specs.Fmt.{digits, digits_onto, digit_glyph}
use Rattle.std.specs.List.{list_any}
use Rattle.std.proofs.lemmas.Bool.{or_from, ne_eqb, cases_eq}
use Rattle.std.proofs.lemmas.List.Folds.{list_any-append}
use Rattle.json.specs.Print.{escape_byte, escape, quoted}
use Rattle.serde_json.specs.Data.{Num, unsigned, negative, float, Data, null, boolean, number, string, array, object, Items, no_items, item, Members, no_members, member}
use Rattle.serde_json.specs.Written.{number_text, compact_text, items_text, members_text, comma_if}
use Rattle.json_values.specs.Texts.{is_line_feed}

none-append : (xs ys : List ℕ) → list_any is_line_feed xs ≡ false → list_any is_line_feed ys ≡ false → list_any is_line_feed (xs ++ ys) ≡ false
none-append xs ys h k = list_any-append is_line_feed xs ys ∙ or_from _ _ h k

-- ---- numbers

above : (n : ℕ) → (48 + n == 10) ≡ false
above n = ne_eqb (48 + n) 10 (λ e. omega (arith, e))

glyph_by : (b : Bool) (d : ℕ) → (cond b (48 + d) (87 + d) == 10) ≡ false
glyph_by true d = above d
glyph_by false d = ne_eqb (87 + d) 10 (λ e. omega (arith, e))

in_digits : (k n : ℕ) (rest : List ℕ) → list_any is_line_feed rest ≡ false → list_any is_line_feed (digits_onto k 10 false n rest) ≡ false
in_digits zero n rest h = h
in_digits (suc k) n rest h =
    let more = or_from _ _ (glyph_by (nat_lt (n % 10) 10) (n % 10)) h in
    elim (n / 10 == 0) as (λ b. list_any is_line_feed (cond b (digit_glyph false (n % 10) ∷ rest) (digits_onto k 10 false (n / 10) (digit_glyph false (n % 10) ∷ rest))) ≡ false) [
      | true ↦ more
      | false ↦ in_digits k (n / 10) (digit_glyph false (n % 10) ∷ rest) more
    ]

in_decimal : (n : ℕ) → list_any is_line_feed (decimal n) ≡ false
unfolding digits
in_decimal n = in_digits 64 n [] refl

in_number : (n : Num) → list_any is_line_feed (number_text n) ≡ false
in_number (unsigned n) = in_decimal n
in_number (negative (pos n)) = in_decimal n
in_number (negative (negsuc n)) = in_decimal (suc n)
in_number (float x) = refl

-- ---- texts

letter_by : (a b c d e f : Bool) (x : ℕ) → (x == 10) ≡ false → (cond a x (cond b 98 (cond c 102 (cond d 110 (cond e 114 (cond f 116 0))))) == 10) ≡ false
letter_by true b c d e f x h = h
letter_by false true c d e f x h = refl
letter_by false false true d e f x h = refl
letter_by false false false true e f x h = refl
letter_by false false false false true f x h = refl
letter_by false false false false false true x h = refl
letter_by false false false false false false x h = refl

byte_by : (short low : Bool) (letter high rest x : ℕ) → (letter == 10) ≡ false → (high == 10) ≡ false → (rest == 10) ≡ false → (x == 10) ≡ false → list_any is_line_feed (cond short (92 ∷ letter ∷ []) (cond low (92 ∷ 117 ∷ 48 ∷ 48 ∷ high ∷ rest ∷ []) (x ∷ []))) ≡ false
byte_by true low letter high rest x l h r e = or_from _ _ l refl
byte_by false true letter high rest x l h r e = or_from _ _ h (or_from _ _ r refl)
byte_by false false letter high rest x l h r e = or_from _ _ e refl

in_byte : (x : ℕ) → list_any is_line_feed (escape_byte x) ≡ false
unfolding escape_byte
in_byte x = go (cases_eq x 10)
  where
    go : (x ≡ 10) ⊎ (x ≡ 10 → ⊥) → list_any is_line_feed (escape_byte x) ≡ false
    go (inl e) = ap (λ (n : ℕ). list_any is_line_feed (escape_byte n)) e
    go (inr ne) =
        let other : (x == 10) ≡ false = ne_eqb x 10 ne in
        byte_by _ (nat_lt x 32) _ _ _ x (letter_by ((x == 34) || (x == 92)) (x == 8) (x == 12) (x == 10) (x == 13) (x == 9) x other) (glyph_by (nat_lt (x / 16) 10) (x / 16)) (glyph_by (nat_lt (x % 16) 10) (x % 16)) other

in_escape : (s : List ℕ) → list_any is_line_feed (escape s) ≡ false
in_escape [] = refl
in_escape (x ∷ s) = none-append (escape_byte x) (escape s) (in_byte x) (in_escape s)

in_quoted : (s : List ℕ) → list_any is_line_feed (quoted s) ≡ false
in_quoted s = none-append (escape s) (34 ∷ []) (in_escape s) refl

-- ---- values

in_comma : (later : Bool) → list_any is_line_feed (comma_if later) ≡ false
in_comma true = refl
in_comma false = refl

mutual
  pub one_line : (d : Data) → list_any is_line_feed (compact_text d) ≡ false
  one_line null = refl
  one_line (boolean true) = refl
  one_line (boolean false) = refl
  one_line (number n) = in_number n
  one_line (string s) = in_quoted s
  one_line (array ds) = in_items false ds
  one_line (object ms) = in_members false ms

  in_items : (later : Bool) (ds : Items) → list_any is_line_feed (items_text later ds) ≡ false
  in_items later no_items = refl
  in_items later (item d ds) = none-append (comma_if later) _ (in_comma later) (none-append (compact_text d) _ (one_line d) (in_items true ds))

  in_members : (later : Bool) (ms : Members) → list_any is_line_feed (members_text later ms) ≡ false
  in_members later no_members = refl
  in_members later (member k d ms) = none-append (comma_if later) _ (in_comma later) (none-append (quoted k) _ (in_quoted k) (none-append (compact_text d) _ (one_line d) (in_members true ms)))
