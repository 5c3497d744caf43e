-- No text that is shown is markup.
use Rattle.std.proofs.Common.{◌≡◌, ◌==◌, ℕ, List, [], ◌∷◌, ◌++◌, codes, Bool, true, false, cond, refl, ◌∙◌}
use Rattle.hypertext.specs.Escaping.{escaped, escaped_byte, has_markup, TextsAreNoMarkup}

byte-plain : (b : ℕ) (rest : List ℕ) → has_markup (escaped_byte b ++ rest) ≡ has_markup rest
byte-plain b rest = by (b == 38) refl (b == 60) refl (b == 62) refl (b == 34) refl (b == 39) refl
  where
    by : (a : Bool) → (b == 38) ≡ a → (l : Bool) → (b == 60) ≡ l → (g : Bool) → (b == 62) ≡ g → (q : Bool) → (b == 34) ≡ q → (p : Bool) → (b == 39) ≡ p
        → has_markup (cond a (codes "&amp;") (cond l (codes "&lt;") (cond g (codes "&gt;") (cond q (codes "&quot;") (cond p (codes "&#39;") (b ∷ []))))) ++ rest) ≡ has_markup rest
    by true e l el g eg q eq p ep = refl
    by false e true el g eg q eq p ep = refl
    by false e false el true eg q eq p ep = refl
    by false e false el false eg true eq p ep = refl
    by false e false el false eg false eq true ep = refl
    by false e false el false eg false eq false ep = rw (el, eg, eq, ep) refl

pub no-markup : TextsAreNoMarkup
no-markup [] = refl
no-markup (b ∷ bytes) = byte-plain b (escaped bytes) ∙ no-markup bytes
