-- A path up to its last slash.
use Rattle.std.proofs.Common.{◌≡◌, ◌≢◌, ◌<◌, ◌+◌, ℕ, List, [], ◌∷◌, ◌++◌, length, take, drop, get_or, refl, sym, ap, subst, inl, inr, ◌∙◌, arith}
use Rattle.std.proofs.lemmas.List.{take-append-drop, take_more, get_or-drop, length-drop}
use Rattle.std.proofs.lemmas.List.Elements.{All-from_get_or}
use Rattle.file_configs.specs.Patterns.{IsFolder}

-- with a slash at an index and none behind it
up_to_last : (path : List ℕ) (k : ℕ) → k < length path → get_or path k 0 ≡ 47 → ((i : ℕ) → k < i → i < length path → get_or path i 0 ≢ 47) → IsFolder path (take (k + 1) path)
up_to_last path k within here none = record {
  rest = drop (k + 1) path;
  whole = sym (take-append-drop (k + 1) path);
  last = All-from_get_or (λ b. b ≢ 47) (drop (k + 1) path) 0 (λ i less e. none (k + 1 + i) (omega arith) (let long = length-drop (k + 1) path in omega arith) (sym (get_or-drop (k + 1) path i 0) ∙ e));
  slash = inr (take k path, take_more path k 0 within ∙ ap (λ b. take k path ++ b ∷ []) here);
}

pub up_to : (path : List ℕ) (k n : ℕ) → n ≡ k + 1 → k < length path → get_or path k 0 ≡ 47 → ((i : ℕ) → k < i → i < length path → get_or path i 0 ≢ 47) → IsFolder path (take n path)
up_to path k n e within here none = subst (λ m. IsFolder path (take m path)) (sym e) (up_to_last path k within here none)

-- without a slash
pub lacking : (path : List ℕ) → ((i : ℕ) → i < length path → get_or path i 0 ≢ 47) → IsFolder path []
lacking path lacks = record { rest = path; whole = refl; last = All-from_get_or (λ b. b ≢ 47) path 0 lacks; slash = inl refl }
