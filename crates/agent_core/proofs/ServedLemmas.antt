-- Places one after the other.
use Rattle.std.proofs.Common.{◌≡◌, ℕ, suc, ◌+◌, ◌-◌, ◌<◌, ◌++◌, List, [], ◌∷◌, sym, ap, ◌∙◌, append_assoc, arith}
use Rattle.std.specs.List.{range_with_len}

pub range_more : (xs : List ℕ) (i n : ℕ) → i < n → (xs ++ i ∷ []) ++ range_with_len (i + 1) (n - (i + 1)) ≡ xs ++ range_with_len i (n - i)
range_more xs i n within =
    let left : n - i ≡ suc (n - (i + 1)) = omega arith in
    append_assoc xs (i ∷ []) (range_with_len (i + 1) (n - (i + 1))) ∙ ap (λ (m : ℕ). xs ++ range_with_len i m) (sym left)
