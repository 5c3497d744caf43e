-- The bytes that are escaped in a path are those that may not stand there.
use Rattle.std.proofs.Common.{◌≡◌, ℕ, zero, suc, ◌+◌, ◌<◌, ◌≤◌, Bool, true, false, not, ◌&&◌, ◌==◌, List, [], ◌∷◌, ◌++◌, refl, sym, ap, ◌∙◌, arith, inl, inr, ◌⊎◌, cond, codes}
use Rattle.std.specs.List.{flat_map}
use Rattle.std.proofs.lemmas.Bool.{and_parts, cases_eq, cases_lt}
use Rattle.std.proofs.lemmas.Bool.Decides.{nat_tests}
use Rattle.std.proofs.lemmas.Grind.{flat_map-append}
use Rattle.percent_encoding.specs.AsciiSet.{should_percent_encode}
use Rattle.percent_encoding.specs.Percent.{percent_encode, encode_byte, percent_encode_byte}
use Rattle.http_get.specs.declared.path.TheConstants.{ESCAPED}
use Rattle.http_get.specs.Paths.{is_path_byte, path_byte, slash_before, escaped_path}

-- ---- each byte of ASCII is tried

alike : Bool → Bool → Bool
alike true b = b
alike false b = not b

alike_same : (a b : Bool) → alike a b ≡ true → a ≡ b
unfolding alike
alike_same true true e = refl
alike_same true false e = sym e
alike_same false true e = e
alike_same false false e = refl

all_below : (ℕ → Bool) → ℕ → Bool
all_below p zero = true
all_below p (suc n) = p n && all_below p n

at_or_below : (p : ℕ → Bool) (n k : ℕ) → p n ≡ true → (k < n → p k ≡ true) → k < n + 1 → (k ≡ n) ⊎ (k ≡ n → ⊥) → p k ≡ true
at_or_below p n k here before lt (inl e) = ap p e ∙ here
at_or_below p n k here before lt (inr ne) = before (omega arith)

below : (p : ℕ → Bool) (n k : ℕ) → all_below p n ≡ true → k < n → p k ≡ true
unfolding all_below
below p zero k all lt = absurd (omega arith)
below p (suc n) k all lt =
    let parts = and_parts _ _ all in
    at_or_below p n k parts.0 (below p n k parts.1) (omega arith) (cases_eq k n)

tried : all_below (λ b. alike (should_percent_encode ESCAPED b) (not (is_path_byte b))) 128 ≡ true
unfolding all_below alike should_percent_encode
tried = refl

past_ascii : (b : ℕ) → 128 ≤ b → should_percent_encode ESCAPED b ≡ not (is_path_byte b)
unfolding should_percent_encode
past_ascii b past = grind (arith, nat_tests)

escaped_same : (b : ℕ) → should_percent_encode ESCAPED b ≡ not (is_path_byte b)
escaped_same b =
    elim (cases_lt b 128) [
      | inl ascii ↦ alike_same _ _ (below (λ b. alike (should_percent_encode ESCAPED b) (not (is_path_byte b))) 128 b tried ascii)
      | inr past ↦ past_ascii b past
    ]

-- ---- a whole path

byte_same : (b : ℕ) → encode_byte ESCAPED b ≡ path_byte b
byte_same b = rw (escaped_same b) (elim (is_path_byte b) as (λ v. cond (not v) (percent_encode_byte b) (b ∷ []) ≡ cond v (b ∷ []) (percent_encode_byte b)) [ true ↦ refl | false ↦ refl ])

encoded_same : (bs : List ℕ) → flat_map (encode_byte ESCAPED) bs ≡ flat_map path_byte bs
encoded_same [] = refl
encoded_same (b ∷ bs) = ap (λ x. x ++ flat_map (encode_byte ESCAPED) bs) (byte_same b) ∙ ap (λ x. path_byte b ++ x) (encoded_same bs)

slash_same : (text : List ℕ) → slash_before text ≡ flat_map path_byte (slash_before text)
slash_same [] = refl
slash_same (b ∷ bs) = elim (b == 47) as (λ v. cond v [] (codes "/") ≡ flat_map path_byte (cond v [] (codes "/"))) [ true ↦ refl | false ↦ refl ]

pub escaped : (text : List ℕ) → slash_before text ++ percent_encode ESCAPED text ≡ escaped_path text
unfolding percent_encode
escaped text =
    ap (λ x. slash_before text ++ x) (encoded_same text)
    ∙ ap (λ x. x ++ flat_map path_byte text) (slash_same text)
    ∙ sym (flat_map-append path_byte (slash_before text) text)
