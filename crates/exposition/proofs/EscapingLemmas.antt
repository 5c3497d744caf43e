-- A value that is written is read back.
use Rattle.std.proofs.Common.{◌≡◌, ◌≢◌, ◌==◌, ℕ, List, [], ◌∷◌, ◌++◌, Bool, true, false, Option, Some, None, cond, refl, sym, ap, ◌∙◌, arith}
use Rattle.std.proofs.lemmas.Bool.Decides.{nat_tests}
use Rattle.exposition.specs.Escaping.{escaped, escaped_byte, value_in, put_before, ValuesAreReadBack}

-- a byte that is written is read back before what follows
byte-back : (b : ℕ) (bytes : List ℕ) → value_in false (escaped_byte b ++ bytes) ≡ put_before b (value_in false bytes)
byte-back b bytes = by (b == 92) refl
  where
    other : (b == 92) ≡ false → (v : Bool) → (b == 34) ≡ v → value_in false ((cond v (92 ∷ 34 ∷ []) (cond (b == 10) (92 ∷ 110 ∷ []) (b ∷ []))) ++ bytes) ≡ put_before b (value_in false bytes)
    other apart true e =
        let is : b ≡ 34 = grind (arith, nat_tests) in
        rw is refl
    other apart false e = last (b == 10) refl
      where
        last : (v : Bool) → (b == 10) ≡ v → value_in false (cond v (92 ∷ 110 ∷ []) (b ∷ []) ++ bytes) ≡ put_before b (value_in false bytes)
        last true f =
            let is : b ≡ 10 = grind (arith, nat_tests) in
            rw is refl
        last false f = rw apart (rw e refl)

    by : (v : Bool) → (b == 92) ≡ v → value_in false (cond v (92 ∷ 92 ∷ []) (cond (b == 34) (92 ∷ 34 ∷ []) (cond (b == 10) (92 ∷ 110 ∷ []) (b ∷ []))) ++ bytes) ≡ put_before b (value_in false bytes)
    by true e =
        let is : b ≡ 92 = grind (arith, nat_tests) in
        rw is refl
    by false e = other e (b == 34) refl

append-assoc : (a b c : List ℕ) → (a ++ b) ++ c ≡ a ++ (b ++ c)
append-assoc [] b c = refl
append-assoc (x ∷ a) b c = ap (λ l. x ∷ l) (append-assoc a b c)

pub read-back : ValuesAreReadBack
read-back [] rest = refl
read-back (b ∷ value) rest =
    rw (append-assoc (escaped_byte b) (escaped value) (34 ∷ rest)) (byte-back b (escaped value ++ 34 ∷ rest) ∙ ap (put_before b) (read-back value rest))
