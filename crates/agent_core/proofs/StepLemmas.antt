-- A loop over a list, one element further.
use Rattle.std.proofs.Common.{◌≡◌, ℕ, suc, ◌+◌, ◌<◌, ◌++◌, List, [], ◌∷◌, Option, Some, None, length, get_or, drop, sym, ap, ◌∙◌, append_assoc, append-nil, add-one}
use Rattle.std.specs.List.{cons_option}
use Rattle.std.proofs.Math.Seq.{drop-cons}

-- what is left begins with the element at the place
pub left : {X : Type 0} (xs : List X) (i : ℕ) (x d : X) → i < length xs → x ≡ get_or xs i d → drop i xs ≡ x ∷ drop (i + 1) xs
left {X} xs i x d within is =
    let next = add-one i in
    drop-cons xs i d within ∙ ap (λ (y : X). y ∷ drop (suc i) xs) (sym is) ∙ ap (λ (n : ℕ). x ∷ drop n xs) (sym next)

pub add_more : {X : Type 0} (xs : List X) (o : Option X) (rest : List X) → (xs ++ cons_option o []) ++ rest ≡ xs ++ cons_option o rest
add_more {X} xs None rest = ap (λ (r : List X). r ++ rest) (append-nil xs)
add_more xs (Some x) rest = append_assoc xs (x ∷ []) rest
