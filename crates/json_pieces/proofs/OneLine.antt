-- What is printed has no line feed.
use Rattle.std.proofs.Common.{◌≡◌, ℕ, ◌+◌, Bool, true, false, cond, ◌||◌, drop, List, [], ◌∷◌, ◌++◌, Option, Some, None, refl, ap, ◌∙◌, suc, subst, arith}
use Rattle.std.specs.Prelude.{◌==◌, option_and_then}
use Rattle.std.specs.Char.{is_ascii_digit}
use Rattle.std.specs.List.{list_any, prefix_len}
use Rattle.std.proofs.lemmas.Bool.{or_from, ne_eqb, eqb-true}
use Rattle.std.proofs.lemmas.List.Folds.{list_any-append}
use Rattle.json.specs.Ascii as ascii
use Rattle.json.specs.Token.{Token, begin_object, end_object, begin_array, end_array, key, string, number, boolean, null, bad}
use Rattle.json.specs.Print.{ArePrintable, IsNumber, IsPrintable, ends, print_from, quoted, separator, token_text}
use Rattle.json.specs.Word.{after_digits, after_exponent, after_fraction, after_minus, after_number, after_sign, after_whole, head}
use Rattle.serde_json.specs.Data.{string as text_data}
use Rattle.json_values.specs.Texts.{is_line_feed}
use Rattle.json_values.proofs.OneLine.{one_line}

abbrev NoFeed : List ℕ → Type 0
NoFeed text = list_any is_line_feed text ≡ false

pub none-append : (xs ys : List ℕ) → NoFeed xs → NoFeed ys → NoFeed (xs ++ ys)
none-append xs ys h k = list_any-append is_line_feed xs ys ∙ or_from _ _ h k

-- ---- numbers: each part has none where what follows it has none

parts : {A B : Type 0} (f : A → Option B) (o : Option A) (r : B) → option_and_then f o ≡ Some r → (x : A) × (o ≡ Some x) × (f x ≡ Some r)
parts f None r e = cc
parts f (Some x) r e = (x, refl, e)

other : (n c : ℕ) → (c == 10) ≡ false → (n == c) ≡ true → (n == 10) ≡ false
other n c h is = ap (λ (k : ℕ). k == 10) (eqb-true n c is) ∙ h

either : (n a b : ℕ) → (a == 10) ≡ false → (b == 10) ≡ false → ((n == a) || (n == b)) ≡ true → (n == 10) ≡ false
either n a b ha hb is = go (n == a) (other n a ha) is
  where
    go : (x : Bool) → (x ≡ true → (n == 10) ≡ false) → (x || (n == b)) ≡ true → (n == 10) ≡ false
    go true f e = f refl
    go false f e = other n b hb e

skip : (b : Bool) (text : List ℕ) → (b ≡ true → (head text == 10) ≡ false) → NoFeed (cond b (drop 1 text) text) → NoFeed text
skip true [] f h = refl
skip true (x ∷ xs) f h = or_from (x == 10) _ (f refl) h
skip false text f h = h

digit : (x : ℕ) → is_ascii_digit x ≡ true → (x == 10) ≡ false
digit x is = ne_eqb x 10 (λ e. let low : is_ascii_digit 10 ≡ true = subst (λ (k : ℕ). is_ascii_digit k ≡ true) e is in cc)

next_digit : (b : Bool) (n x : ℕ) (xs : List ℕ) → (b ≡ true → (x == 10) ≡ false) → (NoFeed (drop n xs) → NoFeed xs) → NoFeed (drop (cond b (1 + n) 0) (x ∷ xs)) → NoFeed (x ∷ xs)
next_digit true n x xs f later h =
    let more : 1 + n ≡ suc n = omega arith in
    or_from (x == 10) _ (f refl) (later (subst (λ k. NoFeed (drop k (x ∷ xs))) more h))
next_digit false n x xs f later h = h

past_digits : (text : List ℕ) → NoFeed (drop (prefix_len is_ascii_digit text) text) → NoFeed text
past_digits [] h = refl
past_digits (x ∷ xs) h = next_digit (is_ascii_digit x) (prefix_len is_ascii_digit xs) x xs (digit x) (past_digits xs) h

some_drop : (b : Bool) (n : ℕ) (text r : List ℕ) → cond b None (Some (drop n text)) ≡ Some r → NoFeed r → NoFeed (drop n text)
some_drop true n text r e h = cc
some_drop false n text r e h = let same : drop n text ≡ r = cc in ap (list_any is_line_feed) same ∙ h

in_digits : (text r : List ℕ) → after_digits text ≡ Some r → NoFeed r → NoFeed text
in_digits text r e h = past_digits text (some_drop (prefix_len is_ascii_digit text == 0) (prefix_len is_ascii_digit text) text r e h)

in_minus : (text : List ℕ) → NoFeed (after_minus text) → NoFeed text
in_minus text h = skip (head text == ascii.minus) text (other (head text) ascii.minus refl) h

in_sign : (text : List ℕ) → NoFeed (after_sign text) → NoFeed text
in_sign text h = skip ((head text == ascii.minus) || (head text == ascii.plus)) text (either (head text) ascii.minus ascii.plus refl refl) h

whole_by : (b : Bool) (text r : List ℕ) → (b ≡ true → (head text == 10) ≡ false) → cond b (Some (drop 1 text)) (after_digits text) ≡ Some r → NoFeed r → NoFeed text
whole_by true text r f e h = let same : drop 1 text ≡ r = cc in skip true text f (ap (list_any is_line_feed) same ∙ h)
whole_by false text r f e h = in_digits text r e h

part_by : (b : Bool) (text inner r : List ℕ) → (b ≡ true → (head text == 10) ≡ false) → (NoFeed inner → NoFeed (drop 1 text)) → cond b (after_digits inner) (Some text) ≡ Some r → NoFeed r → NoFeed text
part_by true text inner r f back e h = skip true text f (back (in_digits inner r e h))
part_by false text inner r f back e h = let same : text ≡ r = cc in ap (list_any is_line_feed) same ∙ h

in_number : (text : List ℕ) → IsNumber text → NoFeed text
unfolding after_number
in_number text is =
    let exponent = parts after_exponent (option_and_then after_fraction (after_whole (after_minus text))) [] is in
    let fraction = parts after_fraction (after_whole (after_minus text)) exponent.0 exponent.1 in
    let t = exponent.0 in
    let behind_fraction : NoFeed t = part_by ((head t == ascii.lower_e) || (head t == ascii.upper_e)) t (after_sign (drop 1 t)) [] (either (head t) ascii.lower_e ascii.upper_e refl refl) (in_sign (drop 1 t)) exponent.2 refl in
    let w = fraction.0 in
    let behind_whole : NoFeed w = part_by (head w == ascii.dot) w (drop 1 w) t (other (head w) ascii.dot refl) (λ h. h) fraction.2 behind_fraction in
    let m = after_minus text in
    in_minus text (whole_by (head m == ascii.zero) m w (other (head m) ascii.zero refl) fraction.1 behind_whole)

-- ---- tokens

in_comma : (b : Bool) → NoFeed (cond b (44 ∷ []) [])
in_comma true = refl
in_comma false = refl

in_token : (t : Token) → IsPrintable t → NoFeed (token_text t)
in_token begin_object h = refl
in_token end_object h = refl
in_token begin_array h = refl
in_token end_array h = refl
in_token (key s) h = none-append (quoted s) (58 ∷ []) (one_line (text_data s)) refl
in_token (string s) h = one_line (text_data s)
in_token (number s) h = in_number s h
in_token (boolean true) h = refl
in_token (boolean false) h = refl
in_token null h = refl
in_token bad h = refl

pub printed_in_one_line : (after : Bool) (ts : List Token) → ArePrintable ts → NoFeed (print_from after ts)
unfolding print_from ArePrintable
printed_in_one_line after [] h = refl
printed_in_one_line after (t ∷ ts) h = none-append (separator after t) _ (in_comma _) (none-append (token_text t) _ (in_token t h.0) (printed_in_one_line (ends t) ts h.1))
