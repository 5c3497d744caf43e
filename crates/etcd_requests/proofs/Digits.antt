-- The last digits of a number, as they are added to a text.
use Rattle.std.proofs.Common.{◌≡◌, ℕ, zero, suc, ◌+◌, ◌-◌, ◌/◌, ◌%◌, ◌<◌, List, [], ◌∷◌, ◌++◌, refl, sym, ap, ◌∙◌, append_assoc, append-nil, arith}
use Rattle.etcd_requests.specs.Keys.{last_digits}

pub no_digits : (count n : ℕ) (text : List ℕ) → count ≡ 0 → text ≡ text ++ last_digits count n
unfolding last_digits
no_digits zero n text h = sym (append-nil text)
no_digits (suc count) n text h = absurd (omega arith)

last_and_more : (count n : ℕ) → 0 < count → last_digits count n ≡ last_digits (count - 1) (n / 10) ++ (48 + n % 10) ∷ []
unfolding last_digits
last_and_more zero n h = absurd (omega arith)
last_and_more (suc count) n h =
    let e : count ≡ suc count - 1 = omega arith in
    ap (λ (k : ℕ). last_digits k (n / 10) ++ (48 + n % 10) ∷ []) e

pub more_digits : (count n : ℕ) (old between new : List ℕ) → 0 < count → between ≡ old ++ last_digits (count - 1) (n / 10) → new ≡ between ++ (48 + n % 10) ∷ [] → new ≡ old ++ last_digits count n
more_digits count n old between new h b e =
    e ∙ ap (λ (t : List ℕ). t ++ (48 + n % 10) ∷ []) b ∙ append_assoc old (last_digits (count - 1) (n / 10)) ((48 + n % 10) ∷ []) ∙ ap (λ (t : List ℕ). old ++ t) (sym (last_and_more count n h))
