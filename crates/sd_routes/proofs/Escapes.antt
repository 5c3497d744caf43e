-- The bytes that are escaped are those that are not unreserved.
use Rattle.std.proofs.Common.{◌≡◌, ◌≢◌, ◌==◌, ℕ, zero, suc, ◌<◌, List, [], ◌∷◌, ◌++◌, get_or, Bool, true, false, cond, not, ◌&&◌, refl, sym, ap, ◌∙◌, arith}
use Rattle.std.proofs.lemmas.Bool.Decides.{nat_tests}
use Rattle.percent_encoding.specs.AsciiSet.{should_percent_encode}
use Rattle.percent_encoding.specs.Percent.{percent_encode, percent_encode_byte, encode_byte}
use Rattle.sd_routes.specs.Links.{is_unreserved, escaped, escaped_byte}
use Rattle.sd_routes.specs.declared.link.TheConstants.{RESERVED}

abbrev same : Bool → Bool → Bool
same true b = b
same false b = not b

same-equal : (a b : Bool) → same a b ≡ true → a ≡ b
same-equal true true h = refl
same-equal true false h = cc
same-equal false true h = cc
same-equal false false h = refl

abbrev all_below : ℕ → (ℕ → Bool) → Bool
all_below zero p = true
all_below (suc n) p = p n && all_below n p

and_parts : (a b : Bool) → (a && b) ≡ true → (a ≡ true) × (b ≡ true)
and_parts true b h = (refl, h)
and_parts false b h = cc

below-at : (n : ℕ) (p : ℕ → Bool) (b : ℕ) → all_below n p ≡ true → b < n → p b ≡ true
below-at zero p b h less = absurd (omega arith)
below-at (suc n) p b h less = by (b == n) refl (and_parts (p n) (all_below n p) h).0 (below-at n p b (and_parts (p n) (all_below n p) h).1)
  where
    by : (v : Bool) → (b == n) ≡ v → p n ≡ true → (b < n → p b ≡ true) → p b ≡ true
    by true e here below =
        let is : b ≡ n = grind (arith, nat_tests) in
        rw is here
    by false e here below =
        let other : b ≢ n = λ q. grind (arith, nat_tests) in
        below (omega arith)

abbrev agrees : ℕ → Bool
agrees b = same (should_percent_encode RESERVED b) (not (is_unreserved b))

all-agree : all_below 256 agrees ≡ true
unfolding should_percent_encode
all-agree = refl

byte-agrees : (b : ℕ) → b < 256 → encode_byte RESERVED b ≡ escaped_byte b
byte-agrees b less =
    let is : should_percent_encode RESERVED b ≡ not (is_unreserved b) = same-equal (should_percent_encode RESERVED b) (not (is_unreserved b)) (below-at 256 agrees b all-agree less) in
    rw is (elim (is_unreserved b) as (λ v. cond (not v) (percent_encode_byte b) (b ∷ []) ≡ cond v (b ∷ []) (percent_encode_byte b)) [
      | true ↦ refl
      | false ↦ refl
    ])

pub escaped_bytes : (bytes : List ℕ) → ((i : ℕ) → get_or bytes i 0 < 256) → percent_encode RESERVED bytes ≡ escaped bytes
unfolding percent_encode escaped
escaped_bytes [] h = refl
escaped_bytes (b ∷ bytes) h = rw (byte-agrees b (h 0)) (ap (λ rest. escaped_byte b ++ rest) (escaped_bytes bytes (λ i. h (suc i))))
